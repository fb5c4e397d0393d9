-- The history law on bytes: every list of uses from an accepted otn_fresh. Assumes nothing.
use mathlib.Core.Path.{◌≡◌, refl, sym, ap, ◌∙◌, subst}
use mathlib.Core.Bool.{Bool, true, false, cond, not, ◌&&◌}
use mathlib.Core.List.{List, [], ◌∷◌, ◌++◌}
use Prim.Native.Nat.{ℕ, ◌%◌, ◌≤◌}
use native.Mathlib.Nat.{div-one, mod-eq_of_lt}
use native.Mathlib.Omega.{arith}
use lib.Dec.{eqb, leb, ltb}
use lib.ListN.{length}
use borrow.Author.Tests.{leb-true, ltb-true, eqb-true, eq-eqb, ne_eqb}
use Rattle.answer.specs.Checks.{Check, check, first_of}
use Rattle.answer.proofs.Cond.{by_cond, and_left, and_right, cond_under, not_so}
use Rattle.answer.proofs.Checks.{first_low, passed}
use Rattle.settings.specs.Settings.{settings_checks, settings_refusal}
use Rattle.settings.specs.Ranges.{SettingsIn}
use Rattle.settings.specs.declared.Request.{Request}
use Rattle.settings.proofs.Ranges.{provisioned_in}
use Rattle.causes.specs.Causes.{report_of}
use Rattle.supervisor.specs.Supervisor.{fresh_of, step_checks, step_refusal, step_of, layer_at}
use Rattle.supervisor.specs.declared.Supervisor.{Supervisor}
use Rattle.history.specs.History.{Frame, frame, stands_at, refusal_of}
use Rattle.history.specs.History as base
use Rattle.tandem.specs.Levels.{level_at, is_level}
use Rattle.tandem.specs.Tandem.{fresh_tandem, request_checks, place_checks, give_refusal, frame_checks, frame_refusal, marked_of, level_report}
use Rattle.tandem.specs.declared.Tandem.{Tandem}
use Rattle.watch.specs.Watch.{LevelCall, gives, frames, marks, tandem_by, tandem_after, refusal_at, framed_at, refusal_of as call_refused, AllTaken}
use Rattle.watch.proofs.Silent.{levels_silent, mark_refusal_lem}
use Rattle.watch.proofs.Alone.{plain_accepts, counts_low}
use Rattle.watch.proofs.Calls.{plain_of}
use Rattle.bays.proofs.Kept.{tandem_kept}
use Rattle.late.specs.Late.{LateMarked, fresh_late, pending_of, late_marked}
use Rattle.late.specs.declared.Late.{Late}
use Rattle.reports.specs.Reports.{late_by, late_after}
use Rattle.reports.proofs.Lists.{late_append}
use Rattle.reports.proofs.Reports.{reported}
use Rattle.slots.specs.Image.{late_bytes, late_from, late_sound}
use Rattle.slots.specs.Ranges.{LateIn}
use Rattle.slots.proofs.Trip.{same_late, late_trip, late_bytes_lem}
use Rattle.slots.proofs.Kept.{late_kept}
use Rattle.word.specs.Table.{bits_of, ReportBack}
use Rattle.word.proofs.Fields.{report_back, level_back}
use Rattle.card.specs.Calls.{told_bit, Provision, provision_refusal, fresh_checks, fresh_refusal, fresh_sup, level_refusal, level_sup, call_refusal, call_answer, call_sup, mark_refusal, mark_answer, mark_sup, mark_record, pending_refusal, pending_answer, pending_record, trace_refused, trace_out, told_refusal, told_answer, level_trace_refused, level_trace_out}
use Rattle.calls.specs.History.{Act, otn_fresh, otn_level, otn_step, otn_mark, otn_pending, otn_trace, otn_level_report, otn_level_trace, act_refusal, act_answer, act_fills, act_bytes, buffer_of, Lent, own, other, Use, bytes_used, bytes_after, refused_on, answer_on, fill_on, Course, events_at, tandem_at, sup_at, begun_by, with_call, course_acted, course_used, course_after, course_of, ActBytes, AllBytes, FromFresh, EveryFromFresh}

-- a mark is refused as without a pending second
pub late_refusal : (s : Late) → (late_marked s).refusal ≡ (marked_of s.tandem).refusal
unfolding late_marked
late_refusal s =
    by_cond (λ (a : LateMarked). a.refusal ≡ (marked_of s.tandem).refusal) (eqb (marked_of s.tandem).refusal 0) (λ e. sym (eqb-true _ _ e)) (λ _. refl)

-- one act on the image of a supervisor in its ranges
module _ (s : Late) (r : LateIn s) where
  abbrev on : Tandem
  on = s.tandem

  -- read back
  tandem_back : (late_from (late_bytes s)).tandem ≡ s.tandem
  tandem_back = ap (λ (x : Late). x.tandem) (late_trip.back s r)

  pending_back : (late_from (late_bytes s)).pending ≡ s.pending
  pending_back = ap (λ (x : Late). x.pending) (late_trip.back s r)

  fresh_on : (p : Provision) → fresh_refusal (late_bytes s) p ≡ provision_refusal p
  unfolding fresh_refusal settings_refusal
  fresh_on p = rw (late_trip.long s r)

  level_on : (n : ℕ) (q : Request) (names : List ℕ) → level_refusal (late_bytes s) n q names ≡ give_refusal on n q names
  unfolding level_refusal give_refusal
  level_on n q names = rw (same_late.tested s r, tandem_back)

  frame_on : (f : Frame) (counts : List ℕ) → call_refusal (late_bytes s) f.overhead f.flags f.sm f.pm counts ≡ refusal_at on f counts
  unfolding call_refusal frame_refusal
  frame_on f counts = rw (same_late.tested s r, tandem_back)

  mark_on : mark_refusal (late_bytes s) ≡ (late_marked s).refusal
  unfolding mark_refusal refusal_of
  mark_on = rw (same_late.tested s r, tandem_back) (sym (mark_refusal_lem on) ∙ sym (late_refusal s))

  pending_on : pending_refusal (late_bytes s) ≡ 0
  unfolding pending_refusal
  pending_on = rw (same_late.tested s r)

  trace_on : (layer : ℕ) (out : List ℕ) → trace_refused (late_bytes s) layer out ≡ refused_on s (otn_trace layer out)
  unfolding trace_refused refused_on
  trace_on layer out = rw (same_late.tested s r, tandem_back)

  report_on : (n : ℕ) → told_refusal (late_bytes s) n ≡ (level_report on n).refusal
  unfolding told_refusal level_report
  report_on n = rw (same_late.tested s r)

  level_trace_on : (n : ℕ) (out : List ℕ) → level_trace_refused (late_bytes s) n out ≡ refused_on s (otn_level_trace n out)
  unfolding level_trace_refused refused_on
  level_trace_on n out = rw (same_late.tested s r, tandem_back)

  refuses_on : (a : Act) → act_refusal (late_bytes s) a ≡ refused_on s a
  unfolding act_refusal refused_on
  refuses_on (otn_fresh p) = fresh_on p
  refuses_on (otn_level n q names) = level_on n q names
  refuses_on (otn_step f counts) = frame_on f counts
  refuses_on (otn_mark out) = mark_on
  refuses_on (otn_pending out) = pending_on
  refuses_on (otn_trace layer out) = trace_on layer out
  refuses_on (otn_level_report n) = report_on n
  refuses_on (otn_level_trace n out) = level_trace_on n out

  answers_on : (a : Act) → act_answer (late_bytes s) a ≡ answer_on s a
  unfolding act_answer answer_on call_answer mark_answer pending_answer told_answer
  answers_on (otn_fresh p) = fresh_on p
  answers_on (otn_level n q names) = level_on n q names
  answers_on (otn_step f counts) = rw (frame_on f counts, tandem_back)
  answers_on (otn_mark out) = rw (mark_on, late_trip.back s r)
  answers_on (otn_pending out) = rw (pending_on, late_trip.back s r)
  answers_on (otn_trace layer out) = trace_on layer out
  answers_on (otn_level_report n) = rw (report_on n, tandem_back)
  answers_on (otn_level_trace n out) = level_trace_on n out

  fills_on : (a : Act) → act_fills (late_bytes s) a ≡ fill_on s a
  unfolding act_fills fill_on mark_record pending_record trace_out level_trace_out
  fills_on (otn_fresh p) = refl
  fills_on (otn_level n q names) = refl
  fills_on (otn_step f counts) = refl
  fills_on (otn_mark out) = rw (mark_on, late_trip.back s r)
  fills_on (otn_pending out) = rw (pending_on, late_trip.back s r)
  fills_on (otn_trace layer out) = rw (trace_on layer out, tandem_back)
  fills_on (otn_level_report n) = refl
  fills_on (otn_level_trace n out) = rw (level_trace_on n out, tandem_back)

-- the bytes after an act are those of the course after it
module _ (c : Course) (r : LateIn (sup_at c)) (same : (sup_at c).tandem ≡ tandem_at c) where
  abbrev s : Late
  s = sup_at c

  -- a call that the course takes or not
  taken_or : (k : LevelCall) (b : Bool) → cond b (late_bytes (late_by s k)) (late_bytes s) ≡ late_bytes (sup_at (cond b (with_call c k) c))
  unfolding late_after
  taken_or k b =
      ap (λ (x : Late). cond b (late_bytes x) (late_bytes s)) (sym (late_append (fresh_late (fresh_tandem (fresh_of c.settings))) c.calls (k ∷ [])))
      ∙ sym (cond_under (λ (z : Course). late_bytes (sup_at z)) b (with_call c k) c)

  leaves_on : (a : Act) → act_bytes (late_bytes s) a ≡ late_bytes (sup_at (course_acted c a))
  unfolding act_bytes course_acted fresh_sup level_sup call_sup mark_sup late_by tandem_by late_after
  leaves_on (otn_fresh p) = rw (fresh_on s r p) (sym (cond_under (λ (z : Course). late_bytes (sup_at z)) (eqb (provision_refusal p) 0) (begun_by p) c))
  leaves_on (otn_level n q names) =
      rw (level_on s r n q names, tandem_back s r, pending_back s r, ← same) (taken_or (gives n q names) (eqb (give_refusal s.tandem n q names) 0))
  leaves_on (otn_step f counts) =
      rw (frame_on s r f counts, tandem_back s r, pending_back s r, ← same) (taken_or (frames f counts) (eqb (refusal_at s.tandem f counts) 0))
  leaves_on (otn_mark out) =
      rw (mark_on s r, late_trip.back s r, ← same, ← late_refusal s) (taken_or marks (eqb (late_marked s).refusal 0))
  leaves_on (otn_pending out) = refl
  leaves_on (otn_trace layer out) = refl
  leaves_on (otn_level_report n) = refl
  leaves_on (otn_level_trace n out) = refl

-- a refused act leaves everything, whatever the bytes are
kept_on : (l : List ℕ) (a : Act) → (act_refusal l a ≡ 0 → ⊥) → (act_bytes l a ≡ l) × (act_fills l a ≡ buffer_of a)
unfolding act_refusal act_bytes act_fills buffer_of fresh_sup level_sup call_sup mark_sup mark_record pending_record trace_out level_trace_out
kept_on l (otn_fresh p) h = let z = ne_eqb (fresh_refusal l p) 0 h in (rw z, refl)
kept_on l (otn_level n q names) h = let z = ne_eqb (level_refusal l n q names) 0 h in (rw z, refl)
kept_on l (otn_step f counts) h = let z = ne_eqb (call_refusal l f.overhead f.flags f.sm f.pm counts) 0 h in (rw z, refl)
kept_on l (otn_mark out) h = let z = ne_eqb (mark_refusal l) 0 h in (rw z, rw z)
kept_on l (otn_pending out) h = let z = ne_eqb (pending_refusal l) 0 h in (refl, rw z)
kept_on l (otn_trace layer out) h = let z = ne_eqb (trace_refused l layer out) 0 h in (refl, rw z)
kept_on l (otn_level_report n) h = (refl, refl)
kept_on l (otn_level_trace n out) h = let z = ne_eqb (level_trace_refused l n out) 0 h in (refl, rw z)

-- no test has the number n, which is not 0: then it is not answered
abbrev others : ℕ → List Check → Bool
others n [] = ltb 0 n
others n (c ∷ cs) = not (eqb c.number n) && others n cs

first_other : (n : ℕ) (cs : List Check) → others n cs ≡ true → first_of cs ≡ n → ⊥
first_other n [] w = λ e. let h = ltb-true 0 n w in omega (arith, h, e)
first_other n (c ∷ cs) w =
    by_cond (λ (m : ℕ). m ≡ n → ⊥) c.passes
    (λ _. first_other n cs (and_right (not (eqb c.number n)) (others n cs) w))
    (λ _ e. not_so (sym (and_left (not (eqb c.number n)) (others n cs) w) ∙ ap not (eq-eqb c.number n e)))

-- no refusal of the definitions is above 18, and none is 17
low : (s : Late) (a : Act) → refused_on s a ≤ 18
unfolding refused_on refusal_of give_refusal frame_refusal level_report settings_refusal
low s (otn_fresh p) = first_low 18 (settings_checks p.k p.section p.path p.snames p.pnames) refl
low s (otn_level n q names) = first_low 18 (request_checks s.tandem.base.settings.k q names ++ place_checks s.tandem n) refl
low s (otn_step f counts) = first_low 18 (frame_checks s.tandem f.overhead f.flags f.sm f.pm counts) refl
low s (otn_mark out) = rw (late_refusal s, mark_refusal_lem s.tandem) (first_low 18 (check 4 (ltb s.tandem.base.seconds 4294967295) ∷ []) refl)
low s (otn_pending out) = omega arith
low s (otn_trace layer out) =
    first_low 18 (check 11 (leb layer 1) ∷ check 12 (eqb (length out) 64) ∷ check 13 (layer_at s.tandem.base layer).known ∷ []) refl
low s (otn_level_report n) = first_low 18 (check 18 (is_level n) ∷ []) refl
low s (otn_level_trace n out) =
    first_low 18 (check 12 (eqb (length out) 64) ∷ check 13 ((level_at s.tandem.levels n).given && (level_at s.tandem.levels n).state.layer.known) ∷ []) refl

no_17 : (s : Late) (a : Act) → refused_on s a ≡ 17 → ⊥
unfolding refused_on refusal_of give_refusal frame_refusal level_report settings_refusal
no_17 s (otn_fresh p) = first_other 17 (settings_checks p.k p.section p.path p.snames p.pnames) refl
no_17 s (otn_level n q names) = first_other 17 (request_checks s.tandem.base.settings.k q names ++ place_checks s.tandem n) refl
no_17 s (otn_step f counts) = first_other 17 (frame_checks s.tandem f.overhead f.flags f.sm f.pm counts) refl
no_17 s (otn_mark out) = rw (late_refusal s, mark_refusal_lem s.tandem) (first_other 17 (check 4 (ltb s.tandem.base.seconds 4294967295) ∷ []) refl)
no_17 s (otn_pending out) = λ e. omega (arith, e)
no_17 s (otn_trace layer out) =
    first_other 17 (check 11 (leb layer 1) ∷ check 12 (eqb (length out) 64) ∷ check 13 (layer_at s.tandem.base layer).known ∷ []) refl
no_17 s (otn_level_report n) = first_other 17 (check 18 (is_level n) ∷ []) refl
no_17 s (otn_level_trace n out) =
    first_other 17 (check 12 (eqb (length out) 64) ∷ check 13 ((level_at s.tandem.levels n).given && (level_at s.tandem.levels n).state.layer.known) ∷ []) refl

-- the report of an accepted frame is that of what stands, and is read back
pub report_is : (t : Tandem) (f : Frame) (counts : List ℕ) → refusal_at t f counts ≡ 0
    → (framed_at t f counts).report ≡ report_of (stands_at t.base f) f.sm f.pm
unfolding step_of
report_is t f counts e =
    let z : step_refusal t.base f.overhead f.flags f.sm f.pm ≡ 0 = plain_accepts t f counts e in
    ((levels_silent t).frame f counts (counts_low t f counts e)).report ∙ rw z

pub report_of_lem : (s : Supervisor) (f : Frame) → refusal_of s (frame f) ≡ 0 → ReportBack (stands_at s f) f.sm f.pm
unfolding refusal_of step_refusal
report_of_lem s f e =
    let three = (passed 4 (step_checks s f.overhead f.flags f.sm f.pm) refl e).1.1.0 in
    let sm = leb-true f.sm 8 (and_left (leb f.sm 8) (leb f.pm 8) three) in
    let pm = leb-true f.pm 8 (and_right (leb f.sm 8) (leb f.pm 8) three) in
    report_back (stands_at s f) f.sm f.pm sm pm

-- the low byte of an answer is the refusal
low_byte : (n : ℕ) → n ≤ 18 → bits_of n 0 8 ≡ n
low_byte n h = ap (λ (m : ℕ). m % 256) (div-one n) ∙ mod-eq_of_lt (omega arith)

bit_eight : (b : Bool) → bits_of (told_bit b) 0 8 ≡ 0
bit_eight true = refl
bit_eight false = refl

told_on_lem : (s : Late) (a : Act) → bits_of (answer_on s a) 0 8 ≡ refused_on s a
unfolding answer_on refused_on refusal_of
told_on_lem s (otn_fresh p) = low_byte (provision_refusal p) (low s (otn_fresh p))
told_on_lem s (otn_level n q names) = low_byte (give_refusal s.tandem n q names) (low s (otn_level n q names))
told_on_lem s (otn_step f counts) =
    let n : ℕ = refusal_at s.tandem f counts in
    by_cond (λ (m : ℕ). bits_of m 0 8 ≡ n) (eqb n 0)
    (λ e.
    let z : n ≡ 0 = eqb-true n 0 e in
    rw (report_is s.tandem f counts z) ((report_of_lem s.tandem.base f (plain_accepts s.tandem f counts z)).reads.0 ∙ sym z))
    (λ _. low_byte n (low s (otn_step f counts)))
told_on_lem s (otn_mark out) =
    by_cond (λ (m : ℕ). bits_of m 0 8 ≡ (late_marked s).refusal) (eqb (late_marked s).refusal 0)
    (λ e. bit_eight (late_marked s).told ∙ sym (eqb-true _ _ e)) (λ _. low_byte (late_marked s).refusal (low s (otn_mark out)))
told_on_lem s (otn_pending out) = bit_eight (pending_of s).told
told_on_lem s (otn_trace layer out) = low_byte _ (low s (otn_trace layer out))
told_on_lem s (otn_level_report n) =
    let m : ℕ = (level_report s.tandem n).refusal in
    by_cond (λ (k : ℕ). bits_of k 0 8 ≡ m) (eqb m 0)
    (λ e. (level_back (level_report s.tandem n).given (level_report s.tandem n).stands (level_report s.tandem n).actions (level_report s.tandem n).causes).reads.0 ∙ sym (eqb-true m 0 e))
    (λ _. low_byte m (low s (otn_level_report n)))
told_on_lem s (otn_level_trace n out) = low_byte _ (low s (otn_level_trace n out))

-- bytes of another length
module _ (l : List ℕ) (h : length l ≡ 2652 → ⊥) where
  unsound : late_sound l ≡ false
  unsound = by (late_sound l) refl
    where
      by : (b : Bool) → late_sound l ≡ b → b ≡ false
      by true e = absurd (h (late_bytes_lem l e))
      by false e = refl

  all_17 : (a : Act) → act_refusal l a ≡ 17
  unfolding act_refusal fresh_refusal level_refusal call_refusal mark_refusal pending_refusal trace_refused told_refusal level_trace_refused
  all_17 (otn_fresh p) = rw (ne_eqb (length l) 2652 h)
  all_17 (otn_level n q names) = rw unsound
  all_17 (otn_step f counts) = rw unsound
  all_17 (otn_mark out) = rw unsound
  all_17 (otn_pending out) = rw unsound
  all_17 (otn_trace layer out) = rw unsound
  all_17 (otn_level_report n) = rw unsound
  all_17 (otn_level_trace n out) = rw unsound

-- what is so of a course all along
pub record Good (c : Course) : Type 0 where
  pub settings : SettingsIn c.settings
  pub taken : AllTaken (fresh_tandem (fresh_of c.settings)) c.calls
  pub ranged : LateIn (sup_at c)

-- so it is at its beginning
good_begun : (p : Provision) → provision_refusal p ≡ 0 → Good (begun_by p)
unfolding late_after
good_begun p e =
    let i = provisioned_in p.k p.section p.path p.snames p.pnames e in
    record { settings = i; taken = tt; ranged = late_kept.fresh _ i }

pub taken_more : (t : Tandem) (cs : List LevelCall) (k : LevelCall) → AllTaken t cs → call_refused (tandem_after t cs) k ≡ 0 → AllTaken t (cs ++ (k ∷ []))
unfolding tandem_after
taken_more t [] k a z = (z, tt)
taken_more t (c ∷ cs) k a z = (a.0, taken_more (tandem_by t c) cs k a.1 z)

-- the supervisor beside the pending second
same_at_lem : (c : Course) → Good c → (sup_at c).tandem ≡ tandem_at c
same_at_lem c g = (reported c.settings g.settings c.calls g.taken).same

-- and after every act
good_call : (c : Course) (k : LevelCall) → LateIn (late_by (sup_at c) k) → Good c
    → Good (cond (eqb (call_refused (tandem_at c) k) 0) (with_call c k) c)
unfolding late_after
good_call c k i g =
    by_cond Good (eqb (call_refused (tandem_at c) k) 0)
    (λ e. record {
      settings = g.settings;
      taken = taken_more (fresh_tandem (fresh_of c.settings)) c.calls k g.taken (eqb-true _ _ e);
      ranged = subst LateIn (sym (late_append (fresh_late (fresh_tandem (fresh_of c.settings))) c.calls (k ∷ []))) i;
    })
    (λ _. g)

good_act : (c : Course) (a : Act) → ActBytes a → Good c → Good (course_acted c a)
unfolding course_acted late_by tandem_by
good_act c (otn_fresh p) b g = by_cond Good (eqb (provision_refusal p) 0) (λ e. good_begun p (eqb-true _ _ e)) (λ _. g)
good_act c (otn_level n q names) b g =
    good_call c (gives n q names) (record { tandem = tandem_kept.given (sup_at c).tandem g.ranged.tandem n q names; pending = g.ranged.pending }) g
good_act c (otn_step f counts) b g =
    good_call c (frames f counts) (record { tandem = tandem_kept.framed (sup_at c).tandem g.ranged.tandem f counts b; pending = g.ranged.pending }) g
good_act c (otn_mark out) b g = good_call c marks (late_kept.marked (sup_at c) g.ranged) g
good_act c (otn_pending out) b g = g
good_act c (otn_trace layer out) b g = g
good_act c (otn_level_report n) b g = g
good_act c (otn_level_trace n out) b g = g

-- a course, and the bytes that are its supervisor's
pub record Kept (b : List ℕ) (c : Course) : Type 0 where
  pub good : Good c
  pub holds : b ≡ late_bytes (sup_at c)

kept_used : (b : List ℕ) (c : Course) (l : Lent) (a : Act) → ActBytes a → Kept b c → Kept (bytes_used b l a) (course_used c l a)
unfolding bytes_used course_used
kept_used b c own a i k = record { good = good_act c a i k.good; holds = ap (λ (x : List ℕ). act_bytes x a) k.holds ∙ leaves_on c k.good.ranged (same_at_lem c k.good) a }
kept_used b c (other l) a i k = k

kept_after : (b : List ℕ) (c : Course) (us : List Use) → AllBytes us → Kept b c → Kept (bytes_after b us) (course_after c us)
unfolding bytes_after course_after
kept_after b c [] i k = k
kept_after b c (u ∷ us) i k =
    kept_after (bytes_used b u.lent u.act) (course_used c u.lent u.act) us i.1 (kept_used b c u.lent u.act i.0 k)

on_course : (b : List ℕ) (c : Course) → Kept b c → FromFresh b c
on_course b c k =
    let s : Late = sup_at c in
    let r : LateIn s = k.good.ranged in
    let e : b ≡ late_bytes s = k.holds in
    let refuses : (a : Act) → act_refusal b a ≡ refused_on s a = λ a. ap (λ (l : List ℕ). act_refusal l a) e ∙ refuses_on s r a in
    let answers : (a : Act) → act_answer b a ≡ answer_on s a = λ a. ap (λ (l : List ℕ). act_answer l a) e ∙ answers_on s r a in
    record {
      settings = k.good.settings;
      taken = k.good.taken;
      accepted = (plain_of (fresh_tandem (fresh_of c.settings)) c.calls k.good.taken).accepted;
      same = same_at_lem c k.good;
      holds = e;
      refuses = refuses;
      answers = answers;
      told = λ a. ap (λ (n : ℕ). bits_of n 0 8) (answers a) ∙ told_on_lem s a ∙ sym (refuses a);
      fills = λ a. ap (λ (l : List ℕ). act_fills l a) e ∙ fills_on s r a;
      leaves = λ a. ap (λ (l : List ℕ). act_bytes l a) e ∙ leaves_on c r (same_at_lem c k.good) a;
      not17 = λ a z. no_17 s a (sym (refuses a) ∙ z);
      elsewhere = all_17;
      kept = kept_on;
    }

settings_of : (sup : List ℕ) (p : Provision) → fresh_refusal sup p ≡ 0 → provision_refusal p ≡ 0
unfolding fresh_refusal settings_refusal
settings_of sup p e =
    let a = passed 17 (fresh_checks sup p) refl e in
    rw a.0 at e

-- the bytes of a course that an accepted otn_fresh began
kept_fresh : (sup : List ℕ) (p : Provision) → fresh_refusal sup p ≡ 0 → Kept (fresh_sup sup p) (begun_by p)
unfolding fresh_sup late_after
kept_fresh sup p e = record { good = good_begun p (settings_of sup p e); holds = rw e }

pub kept_from : (sup : List ℕ) (p : Provision) (uses : List Use) → fresh_refusal sup p ≡ 0 → AllBytes uses
    → Kept (bytes_after (fresh_sup sup p) uses) (course_of p uses)
kept_from sup p uses e i = kept_after (fresh_sup sup p) (begun_by p) uses i (kept_fresh sup p e)

pub from_fresh_lem : EveryFromFresh
from_fresh_lem sup p uses e i = on_course _ _ (kept_from sup p uses e i)

-- line, section and path after a course
pub base_at : (b : List ℕ) (c : Course) → FromFresh b c → (tandem_at c).base ≡ base.reached c.settings (events_at c)
base_at b c on = (plain_of (fresh_tandem (fresh_of c.settings)) c.calls on.taken).base
