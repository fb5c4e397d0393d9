-- What C is answered is the page's, and of the levels the sheet's. Assumes nothing.
use mathlib.Core.Path.{◌≡◌, refl, sym, ap, ◌∙◌}
use mathlib.Core.Bool.{Bool, true, false, cond, ◌&&◌}
use mathlib.Core.List.{List, [], ◌∷◌}
use Prim.Native.Nat.{ℕ, ◌≤◌}
use native.Mathlib.Omega.{arith}
use lib.Dec.{eqb}
use lib.ListN.{length, get_or}
use borrow.Author.Tests.{eqb-true, le-leb}
use Rattle.answer.proofs.Cond.{not_so}
use Rattle.causes.specs.Causes.{tim_acts}
use Rattle.causes.specs.declared.Report.{Report}
use Rattle.supervisor.specs.Supervisor.{Traced, trace_refusal, traced_of, step_of}
use Rattle.supervisor.specs.declared.Supervisor.{Supervisor}
use Rattle.history.specs.History.{Frame, frame, mark, does, reads, answer_of}
use Rattle.page.proofs.Page.{page}
use Rattle.tandem.specs.Levels.{level_at, low_to}
use Rattle.tandem.specs.Tandem.{framed_of, marked_of, level_report, level_traced, nothing}
use Rattle.level.specs.Level.{level_actions, level_causes}
use Rattle.tandem.specs.declared.Level.{Level}
use Rattle.tandem.specs.declared.Tandem.{Tandem}
use Rattle.watch.specs.Watch.{refusal_at, framed_at, SameFrame, Nothing}
use Rattle.watch.proofs.Silent.{levels_silent}
use Rattle.words.specs.Words.{flat}
use Rattle.codec.specs.Over.{poured}
use Rattle.late.specs.Late.{pending_of, late_marked}
use Rattle.late.specs.declared.Late.{Late}
use Rattle.reports.specs.Reports.{Reported}
use Rattle.reports.proofs.Reports.{reported}
use Rattle.sheet.specs.Sheet.{Provisioned, never, with, provisioned}
use Rattle.sheet.proofs.Sheet.{level_page, level_causes_lem, level_other}
use Rattle.sheet.proofs.Calls.{level_refusals}
use Rattle.word.specs.Report.{report_word}
use Rattle.word.specs.Level.{level_word}
use Rattle.card.specs.Calls.{unless, fresh_sup, told_bit, told_word}
use Rattle.calls.specs.History.{otn_step, otn_mark, otn_pending, otn_trace, otn_level_report, otn_level_trace, refused_on, answer_on, told_in, fill_on, bytes_after, Course, events_at, tandem_at, sup_at, course_of, FromFresh}
use Rattle.calls.specs.ByPage.{answer_word, answer_fill, sheet_of, mark_refused, closed_by, bit_by, fill_by, next_reported, pending_now, level_told, level_read, EveryByPage}
use Rattle.calls.proofs.Histories.{late_refusal, from_fresh_lem, base_at}

-- a frame and a reading by the definitions of line, section and path
module _ (s : Late) where
  abbrev on : Tandem
  on = s.tandem

  framed_refusal : (f : Frame) (counts : List ℕ) → (framed_at on f counts).refusal ≡ refusal_at on f counts
  unfolding framed_of
  framed_refusal f counts = by (eqb (refusal_at on f counts) 0) refl
    where
      by : (b : Bool) → eqb (refusal_at on f counts) 0 ≡ b → (framed_at on f counts).refusal ≡ refusal_at on f counts
      by true e = rw e (sym (eqb-true (refusal_at on f counts) 0 e))
      by false e = rw e

  frame_of_lem : (f : Frame) (counts : List ℕ) → low_to 6 counts ≡ true → answer_on s (otn_step f counts) ≡ answer_word (answer_of on.base (does (frame f)))
  unfolding answer_on answer_of
  frame_of_lem f counts low =
      let same : SameFrame (framed_at on f counts) (step_of on.base f.overhead f.flags f.sm f.pm) = (levels_silent on).frame f counts low in
      let word : ℕ → Report → ℕ = λ n r. unless n (report_word r) n in
      ap (λ (n : ℕ). word n (framed_at on f counts).report) (sym (framed_refusal f counts) ∙ same.refusal)
      ∙ ap (word (step_of on.base f.overhead f.flags f.sm f.pm).refusal) same.report

  -- a trace's refusals where the buffer has room
  read_refusal : (layer : ℕ) (out : List ℕ) → length out ≡ 64 → refused_on s (otn_trace layer out) ≡ trace_refusal on.base layer
  unfolding refused_on trace_refusal
  read_refusal layer out r = rw r

  read_of : (layer : ℕ) (out : List ℕ) → length out ≡ 64 → (answer_on s (otn_trace layer out) ≡ answer_word (answer_of on.base (reads layer)))
      × (fill_on s (otn_trace layer out) ≡ answer_fill out (answer_of on.base (reads layer)))
  unfolding answer_on fill_on answer_of traced_of
  read_of layer out r = by (eqb (trace_refusal on.base layer) 0) refl
    where
      by : (b : Bool) → eqb (trace_refusal on.base layer) 0 ≡ b → (answer_on s (otn_trace layer out) ≡ answer_word (answer_of on.base (reads layer)))
          × (fill_on s (otn_trace layer out) ≡ answer_fill out (answer_of on.base (reads layer)))
      by true e = (rw (read_refusal layer out r, e) (eqb-true _ _ e), rw (read_refusal layer out r, e))
      by false e = (rw (read_refusal layer out r, e), rw (read_refusal layer out r, e) (rw e))

  -- a level's trace likewise
  traced_refusal : (n : ℕ) (out : List ℕ) → length out ≡ 64 → refused_on s (otn_level_trace n out) ≡ (level_traced on n).refusal
  unfolding refused_on level_traced
  traced_refusal n out r = by ((level_at on.levels n).given && (level_at on.levels n).state.layer.known) refl
    where
      by : (b : Bool) → ((level_at on.levels n).given && (level_at on.levels n).state.layer.known) ≡ b
          → refused_on s (otn_level_trace n out) ≡ (level_traced on n).refusal
      by true e = rw (r, e)
      by false e = rw (r, e)

  level_answer : (n : ℕ) (out : List ℕ) → length out ≡ 64 → answer_on s (otn_level_trace n out) ≡ (level_traced on n).refusal
  unfolding answer_on
  level_answer n out r = traced_refusal n out r

  level_fill : (n : ℕ) (out : List ℕ) → length out ≡ 64
      → fill_on s (otn_level_trace n out) ≡ unless (level_traced on n).refusal (level_traced on n).trace out
  unfolding fill_on
  level_fill n out r = ap (λ (m : ℕ). unless m (level_traced on n).trace out) (traced_refusal n out r)

-- what is told, and the record, by the seconds closed
told_by_lem : (b : Bool) (x y : List ℕ) (m : ℕ) → cond b (x ∷ []) [] ≡ cond (eqb m 0) [] (y ∷ [])
    → (told_bit b ≡ cond (eqb m 0) 0 256) × ((out : List ℕ) → told_in b x out ≡ cond (eqb m 0) out (poured out (flat y))) × (eqb m 0 ≡ false → x ≡ y)
told_by_lem b x y m = by b (eqb m 0)
  where
    by : (b z : Bool) → cond b (x ∷ []) [] ≡ cond z [] (y ∷ [])
        → (told_bit b ≡ cond z 0 256) × ((out : List ℕ) → told_in b x out ≡ cond z out (poured out (flat y))) × (z ≡ false → x ≡ y)
    by true true e = absurd (omega (arith, ap length e))
    by true false e = let h : x ≡ y = ap (λ (l : List (List ℕ)). get_or l 0 []) e in (refl, (λ out. ap (λ (l : List ℕ). poured out (flat l)) h), λ _. h)
    by false true e = (refl, (λ out. refl), λ f. absurd (not_so f))
    by false false e = absurd (omega (arith, ap length e))

-- of a level that is not provisioned nothing is told
not_given : (t : Tandem) (n : ℕ) → Nothing t n → (level_report t n).given ≡ false
unfolding level_report
not_given t n z = ap (λ (l : Level). l.given) z.blank

none_word : level_word false nothing (level_actions nothing) (level_causes nothing) ≡ 0
unfolding level_word tim_acts
none_word = refl

-- what is told of a level, by the supervisor with levels
told_on : Tandem → ℕ → ℕ
told_on t n = unless (level_report t n).refusal (told_word (level_report t n)) (level_report t n).refusal

tell_of : (s : Late) (n : ℕ) → answer_on s (otn_level_report n) ≡ told_on s.tandem n
unfolding answer_on told_on
tell_of s n = refl

module _ (b : List ℕ) (c : Course) (on : FromFresh b c) where
  abbrev t : Tandem
  t = tandem_at c

  -- level n, 1 to 6: what it tells, its trace, and its figures, provisioned or not
  module _ (n : ℕ) (low : 1 ≤ n) (high : n ≤ 6) where
    is_one : (level_report t n).refusal ≡ 0
    unfolding level_report
    is_one = rw (le-leb 1 n low, le-leb n 6 high)

    one_told : (w : Provisioned) → provisioned n c.calls ≡ w → told_on t n ≡ level_told c.settings n w (sheet_of c)
    unfolding told_on level_told
    one_told never e =
        let z : Nothing t n = level_other c.settings c.calls on.taken n low high e in
        rw (is_one, not_given t n z, z.stands, z.actions, z.causes) none_word
    one_told (with o) e =
        let page_is = level_page c.settings on.settings c.calls on.taken n low high o e in
        let causes_are = level_causes_lem c.settings on.settings c.calls on.taken n low high o e in
        rw (is_one, page_is.given, page_is.stood, causes_are.acted, causes_are.caused)

    one_read : (w : Provisioned) → provisioned n c.calls ≡ w → ((level_traced t n).refusal ≡ (level_read c.settings n w (sheet_of c)).refusal)
        × ((out : List ℕ) → unless (level_traced t n).refusal (level_traced t n).trace out
        ≡ unless (level_read c.settings n w (sheet_of c)).refusal (level_read c.settings n w (sheet_of c)).trace out)
    unfolding level_read
    one_read never e =
        let z : Nothing t n = level_other c.settings c.calls on.taken n low high e in
        (z.trace, λ out. rw z.trace)
    one_read (with o) e =
        let page_is = level_page c.settings on.settings c.calls on.taken n low high o e in
        (ap (λ (a : Traced). a.refusal) page_is.read, λ out. ap (λ (a : Traced). unless a.refusal a.trace out) page_is.read)

  -- the next mark: its refusal is the page's, and where it is accepted it reports as the calls alone say
  mark_refused_lem : (late_marked (sup_at c)).refusal ≡ mark_refused c
  unfolding answer_of
  mark_refused_lem =
      late_refusal (sup_at c)
      ∙ ap (λ (x : Tandem). (marked_of x).refusal) on.same
      ∙ (levels_silent t).mark.refusal
      ∙ ap (λ (x : Supervisor). answer_word (answer_of x (does mark))) (base_at b c on)
      ∙ ap answer_word (page c.settings on.settings (events_at c) on.accepted (does mark))

  says : Reported c.settings c.calls
  says = reported c.settings on.settings c.calls on.taken

  pub mark_taken : mark_refused c ≡ 0 → (marked_of t).refusal ≡ 0
  mark_taken z = ap (λ (x : Tandem). (marked_of x).refusal) (sym on.same) ∙ sym (late_refusal (sup_at c)) ∙ mark_refused_lem ∙ z

  mark_told : mark_refused c ≡ 0 → (told_bit (late_marked (sup_at c)).told ≡ bit_by c)
      × ((out : List ℕ) → told_in (late_marked (sup_at c)).told (late_marked (sup_at c)).figures out ≡ fill_by c (next_reported c) out)
      × (eqb (closed_by c) 0 ≡ false → (late_marked (sup_at c)).figures ≡ next_reported c)
  mark_told z = told_by_lem (late_marked (sup_at c)).told (late_marked (sup_at c)).figures (next_reported c) (closed_by c) (says.mark (mark_taken z))

  pub next_is : mark_refused c ≡ 0 → eqb (closed_by c) 0 ≡ false → (late_marked (sup_at c)).figures ≡ next_reported c
  next_is z = (mark_told z).2

  pub pending_now_lem : eqb (closed_by c) 0 ≡ false → (pending_of (sup_at c)).figures ≡ pending_now c
  pending_now_lem = (told_by_lem (pending_of (sup_at c)).told (pending_of (sup_at c)).figures (pending_now c) (closed_by c) says.last).2

  marks_are : (out : List ℕ) → (answer_on (sup_at c) (otn_mark out) ≡ unless (mark_refused c) (bit_by c) (mark_refused c))
      × (fill_on (sup_at c) (otn_mark out) ≡ unless (mark_refused c) (fill_by c (next_reported c) out) out)
  unfolding answer_on fill_on
  marks_are out = by (eqb (mark_refused c) 0) refl
    where
      by : (z : Bool) → eqb (mark_refused c) 0 ≡ z → (answer_on (sup_at c) (otn_mark out) ≡ unless (mark_refused c) (bit_by c) (mark_refused c))
          × (fill_on (sup_at c) (otn_mark out) ≡ unless (mark_refused c) (fill_by c (next_reported c) out) out)
      by true e = let f = mark_told (eqb-true _ _ e) in (rw (mark_refused_lem, e) f.0, rw (mark_refused_lem, e) (f.1 out))
      by false e = (rw (mark_refused_lem, e), rw (mark_refused_lem, e))

  pending_is : (out : List ℕ) → (answer_on (sup_at c) (otn_pending out) ≡ bit_by c) × (fill_on (sup_at c) (otn_pending out) ≡ fill_by c (pending_now c) out)
  unfolding answer_on fill_on
  pending_is out = let f = told_by_lem (pending_of (sup_at c)).told (pending_of (sup_at c)).figures (pending_now c) (closed_by c) says.last in (f.0, f.1 out)

pub by_page : EveryByPage
unfolding refused_on
by_page sup p uses e i =
    let c : Course = course_of p uses in
    let b : List ℕ = bytes_after (fresh_sup sup p) uses in
    let on : FromFresh b c = from_fresh_lem sup p uses e i in
    let s : Late = sup_at c in
    let is = ap (λ (t : Tandem). t.base) on.same ∙ base_at b c on in
    let paged = page c.settings on.settings (events_at c) on.accepted in
    record {
      refuses = λ f counts.
          on.refuses (otn_step f counts) ∙ ap (λ (t : Tandem). refusal_at t f counts) on.same
          ∙ (level_refusals c.settings on.settings c.calls on.taken).framed f counts;
      frames = λ f counts low.
          on.answers (otn_step f counts) ∙ frame_of_lem s f counts low
          ∙ ap (λ (s : Supervisor). answer_word (answer_of s (does (frame f)))) is ∙ ap answer_word (paged (does (frame f)));
      marks = λ out. on.answers (otn_mark out) ∙ (marks_are b c on out).0;
      records = λ out. on.fills (otn_mark out) ∙ (marks_are b c on out).1;
      pendings = λ out. on.answers (otn_pending out) ∙ (pending_is b c on out).0;
      pending_fills = λ out. on.fills (otn_pending out) ∙ (pending_is b c on out).1;
      traces = λ layer out long.
          on.answers (otn_trace layer out) ∙ (read_of s layer out long).0
          ∙ ap (λ (s : Supervisor). answer_word (answer_of s (reads layer))) is ∙ ap answer_word (paged (reads layer));
      trace_fills = λ layer out long.
          on.fills (otn_trace layer out) ∙ (read_of s layer out long).1
          ∙ ap (λ (s : Supervisor). answer_fill out (answer_of s (reads layer))) is ∙ ap (answer_fill out) (paged (reads layer));
      tells = λ n low high.
          on.answers (otn_level_report n) ∙ tell_of s n ∙ ap (λ (t : Tandem). told_on t n) on.same
          ∙ one_told b c on n low high (provisioned n c.calls) refl;
      level_traces = λ n out low high long.
          on.answers (otn_level_trace n out) ∙ level_answer s n out long ∙ ap (λ (t : Tandem). (level_traced t n).refusal) on.same
          ∙ (one_read b c on n low high (provisioned n c.calls) refl).0;
      level_fills = λ n out low high long.
          on.fills (otn_level_trace n out) ∙ level_fill s n out long ∙ ap (λ (t : Tandem). unless (level_traced t n).refusal (level_traced t n).trace out) on.same
          ∙ (one_read b c on n low high (provisioned n c.calls) refl).1 out;
    }
