-- Demand 3 on bytes. Assumes nothing.
use mathlib.Core.Path.{◌≡◌, refl, sym, ap, ◌∙◌, subst, subst⁻¹}
use mathlib.Core.Bool.{Bool, true, false, cond, not, ◌&&◌}
use mathlib.Core.List.{List, [], ◌∷◌, ◌++◌}
use Prim.Native.Nat.{ℕ, zero, suc, ◌+◌, ◌-◌, ◌*◌, ◌≤◌, ◌<◌}
use native.Mathlib.Nat.{not-suc-le-zero, le_of_suc-le-suc}
use native.Mathlib.Omega.{arith}
use lib.Dec.{lit<, eqb, ltb}
use lib.ListN.{length, get_or, take, drop, replicate, length-map, length-drop}
use lib.Seq.{get_or-drop, get_or-take, length-take-le}
use borrow.Author.Tests.{eqb-false}
use Rattle.answer.specs.Bits.{flag}
use Rattle.answer.specs.Bounded.{Bounded}
use Rattle.words.specs.Words.{flat}
use Rattle.words.proofs.Words.{length_flat, word_in_flat}
use Rattle.codec.specs.Over.{poured}
use Rattle.codec.proofs.Overs.{poured_all}
use Rattle.ranges.proofs.Below.{below_long, below_all}
use Rattle.causes.specs.Causes.{report_of, head_of, tim_acts}
use Rattle.causes.specs.OneCause.{section_tim, path_tim, OneCause}
use Rattle.causes.proofs.OneCause.{one_cause}
use Rattle.causes.specs.declared.Standing.{Standing}
use Rattle.causes.specs.declared.Report.{Report}
use Rattle.frame.specs.Layers.{standing_of, section_stands, path_stands}
use Rattle.second.specs.Second.{figures_of}
use Rattle.settings.specs.declared.Settings.{Settings}
use Rattle.supervisor.specs.Supervisor.{fresh_of, stands_after, frame_of, next_second}
use Rattle.supervisor.specs.declared.Supervisor.{Supervisor}
use Rattle.history.specs.History.{Frame, Event, frame, mark, stands_at, framed, event_of, after, refusal_of}
use Rattle.history.specs.Ledger.{sum_of, marks as marks_among}
use Rattle.history.specs.Ranges.{AllAtMost}
use Rattle.history.proofs.Ranges.{most_at}
use Rattle.page.specs.Page.{answer}
use Rattle.tandem.specs.Levels.{five_of, level_at}
use Rattle.tandem.specs.Tandem.{fresh_tandem, marked_of}
use Rattle.tandem.specs.declared.Tandem.{Tandem}
use Rattle.watch.specs.Watch.{marks, refusal_at, group_at}
use Rattle.watch.proofs.Alone.{plain_accepts, own_figures}
use Rattle.late.specs.Late.{section_erred, level_erred, levels_erred, next_report, pending_of, late_marked}
use Rattle.late.specs.declared.Late.{Late}
use Rattle.reports.specs.Reports.{LineDemand3, SumBounds}
use Rattle.reports.proofs.Lists.{marks_append}
use Rattle.reports.proofs.Reports.{reported}
use Rattle.slot.specs.Slot.{slot_greatest, figures_ranged}
use Rattle.slots.specs.Ranges.{LateIn}
use Rattle.slots.proofs.Kept.{voided_ranged}
use Rattle.word.specs.Report.{report_word}
use Rattle.word.specs.Table.{report_table, bits_of, ReportBack}
use Rattle.word.proofs.Fields.{row_read}
use Rattle.card.specs.Calls.{unless, fresh_sup}
use Rattle.calls.specs.History.{otn_step, otn_mark, otn_pending, act_refusal, act_answer, act_fills, bytes_after, refused_on, answer_on, Course, events_at, tandem_at, sup_at, course_of, FromFresh}
use Rattle.calls.specs.ByPage.{page_of, mark_refused, closed_by, bit_by, next_reported, pending_now, ByPage}
use Rattle.calls.specs.Words.{EveryRecordBack, EveryLevelWords}
use Rattle.calls.specs.Demand.{section_tim_bit, path_tim_bit, ReportedCause, figure_in, RecordedSecond, EveryByteDemand3}
use Rattle.calls.proofs.Histories.{report_is, report_of_lem, taken_more, kept_from, from_fresh_lem, base_at}
use Rattle.calls.proofs.ByPage.{mark_taken, next_is, pending_now_lem, by_page}

-- one bit that holds a Bool
bit_is : (n : ℕ) (x : Bool) → n ≡ flag x → eqb n 1 ≡ x
bit_is n true e = rw e
bit_is n false e = rw e

-- a cTIM whose TIM acts, by the cause and by TIMActDis
acting : (tim free disabled : Bool) → ((tim && free) && not disabled) ≡ ((tim && free) && (tim && not disabled))
acting true free disabled = refl
acting false free disabled = refl

-- the report of an accepted frame, by what stands
caused : (p : Settings) (d : Standing) (sm pm : ℕ) → d.section.disabled ≡ p.section.disabled → d.path.disabled ≡ p.path.disabled
    → ReportBack d sm pm → ReportedCause p (report_word (report_of d sm pm))
unfolding report_of tim_acts
caused p d sm pm sdis pdis back =
    let w : ℕ = report_word (report_of d sm pm) in
    let r : Report = report_of d sm pm in
    let one : OneCause d = one_cause d in
    let head : bits_of w 8 4 ≡ head_of d = row_read 1 w r report_table back.reads in
    let atsf = bit_is (bits_of w 37 1) r.path.tsf (row_read 24 w r report_table back.reads) in
    let clof = bit_is (bits_of w 44 1) r.causes.line.lof (row_read 28 w r report_table back.reads) in
    let clom = bit_is (bits_of w 45 1) r.causes.line.lom (row_read 29 w r report_table back.reads) in
    let stim = bit_is (bits_of w 46 1) r.causes.section.tim (row_read 30 w r report_table back.reads) in
    let coci = bit_is (bits_of w 50 1) r.causes.path.oci (row_read 34 w r report_table back.reads) in
    let clck = bit_is (bits_of w 51 1) r.causes.path.lck (row_read 35 w r report_table back.reads) in
    let ptim = bit_is (bits_of w 52 1) r.causes.path.tim (row_read 36 w r report_table back.reads) in
    let sacts : section_tim_bit p w ≡ section_tim d = rw (stim, ← sdis) (acting d.section.tim _ d.section.disabled) in
    let pacts : path_tim_bit p w ≡ path_tim d = rw (ptim, ← pdis) (acting d.path.tim _ d.path.disabled) in
    record {
      head = rw head one.head;
      failed = atsf ∙ rw head one.failed;
      lof = clof ∙ rw head one.lof;
      lom = clom ∙ rw head one.lom;
      tim = sacts ∙ rw head one.tim;
      oci = coci ∙ rw head one.oci;
      lck = clck ∙ rw head one.lck;
      pathtim = pacts ∙ rw head one.pathtim;
      alone = omega (arith, one.alone, ap flag clof, ap flag clom, ap flag sacts, ap flag coci, ap flag clck, ap flag pacts);
    }

-- no event changes the settings, and what stands after a frame has its TIMActDis from them
settings_after : (s : Supervisor) (h : List Event) → (after s h).settings ≡ s.settings
unfolding after event_of frame_of next_second
settings_after s [] = refl
settings_after s (frame f ∷ h) = settings_after (framed s f) h
settings_after s (mark ∷ h) = settings_after (next_second s) h

reported_at : (b : List ℕ) (c : Course) → FromFresh b c → (f : Frame) → refusal_of (tandem_at c).base (frame f) ≡ 0
    → ReportedCause c.settings (report_word (report_of (stands_at (tandem_at c).base f) f.sm f.pm))
unfolding stands_after standing_of section_stands path_stands
reported_at b c on f z =
    let same = ap (λ (s : Supervisor). s.settings) (base_at b c on) ∙ settings_after (fresh_of c.settings) (events_at c) in
    caused c.settings (stands_at (tandem_at c).base f) f.sm f.pm
    (ap (λ (p : Settings). p.section.disabled) same) (ap (λ (p : Settings). p.path.disabled) same)
    (report_of_lem (tandem_at c).base f z)

-- the ten heads one by one
sum_to : ℕ → (ℕ → ℕ) → ℕ
sum_to zero f = 0
sum_to (suc n) f = f 0 + sum_to n (λ k. f (suc k))

sum_each : (l : List ℕ) → sum_of l ≡ sum_to (length l) (λ k. get_or l k 0)
unfolding sum_to
sum_each [] = refl
sum_each (x ∷ l) = ap (λ (n : ℕ). x + n) (sum_each l)

ten : (v : List ℕ) → length v ≡ 52 → sum_of (take 10 (drop 2 v))
    ≡ get_or v 2 0 + get_or v 3 0 + get_or v 4 0 + get_or v 5 0 + get_or v 6 0 + get_or v 7 0 + get_or v 8 0 + get_or v 9 0 + get_or v 10 0 + get_or v 11 0
unfolding sum_to
ten v n =
    let l : List ℕ = take 10 (drop 2 v) in
    let k : length l ≡ 10 = length-take-le 10 (drop 2 v) (omega (arith, length-drop 2 v, n)) in
    let g : (i : ℕ) → i < 10 → get_or l i 0 ≡ get_or v (2 + i) 0 = λ i h. get_or-take 10 (drop 2 v) i 0 h ∙ get_or-drop 2 v i 0 in
    omega (
      arith,
      sum_each l ∙ ap (λ (m : ℕ). sum_to m (λ i. get_or l i 0)) k,
      g 0 (lit< tt),
      g 1 (lit< tt),
      g 2 (lit< tt),
      g 3 (lit< tt),
      g 4 (lit< tt),
      g 5 (lit< tt),
      g 6 (lit< tt),
      g 7 (lit< tt),
      g 8 (lit< tt),
      g 9 (lit< tt),
    )

-- A record of 208 bytes filled with figures that fit their words: its words are they, and demand 3 is read from it.
recorded_by : (v out : List ℕ) → length v ≡ 52 → ((i : ℕ) → get_or v i 0 ≤ 4294967295) → LineDemand3 v → SumBounds v → length out ≡ 208 → RecordedSecond v (poured out (flat v))
recorded_by v out n f d u k =
    let all : poured out (flat v) ≡ flat v = poured_all out (flat v) (omega (arith, length_flat v, n, k)) in
    let w : (i : ℕ) → i < 52 → figure_in (poured out (flat v)) i ≡ get_or v i 0 =
    λ i h. ap (λ (l : List ℕ). figure_in l i) all ∙ word_in_flat v i (omega (arith, f i)) (omega (arith, n, h)) in
    let both : (i j : ℕ) → i < 52 → j < 52 → Bounded (get_or v i 0) (get_or v j 0) → Bounded (figure_in (poured out (flat v)) i) (figure_in (poured out (flat v)) j) =
    λ i j h g b. rw (w i h, w j g) b in
    record {
      words = w;
      sum = omega (
        arith,
        ten v n,
        d.sum,
        w 1 (lit< tt),
        w 2 (lit< tt),
        w 3 (lit< tt),
        w 4 (lit< tt),
        w 5 (lit< tt),
        w 6 (lit< tt),
        w 7 (lit< tt),
        w 8 (lit< tt),
        w 9 (lit< tt),
        w 10 (lit< tt),
        w 11 (lit< tt),
      );
      near_most = omega (arith, d.near_most, w 2 (lit< tt), w 11 (lit< tt), w 17 (lit< tt));
      far_most = omega (arith, d.far_most, w 2 (lit< tt), w 11 (lit< tt), w 18 (lit< tt));
      section_sum_is = both 13 16 (lit< tt) (lit< tt) u.section;
      path_sum = both 18 21 (lit< tt) (lit< tt) u.path;
      level_sum_is = λ m low high. both (18 + 5 * m) (21 + 5 * m) (omega (arith, high)) (omega (arith, high)) (u.level m low high);
    }

-- a mark that answers 256 is accepted, and a second was closed before it
pub told_mark : (c : Course) → unless (mark_refused c) (bit_by c) (mark_refused c) ≡ 256 → (mark_refused c ≡ 0) × (eqb (closed_by c) 0 ≡ false)
unfolding answer
told_mark c e = by (ltb (marks_among (page_of c)) 4294967295) (eqb (closed_by c) 0) refl refl
  where
    by : (x y : Bool) → ltb (marks_among (page_of c)) 4294967295 ≡ x → eqb (closed_by c) 0 ≡ y → (mark_refused c ≡ 0) × (eqb (closed_by c) 0 ≡ false)
    by true true u v = let z : ◌≡◌ {A = ℕ} 0 256 = rw (u, v) at e in absurd (omega arith)
    by true false u v = (rw u, v)
    by false y u v = let z : ◌≡◌ {A = ℕ} 4 256 = rw u at e in absurd (omega arith)

pub told_pending : (c : Course) → bit_by c ≡ 256 → eqb (closed_by c) 0 ≡ false
told_pending c = by (eqb (closed_by c) 0)
  where
    by : (y : Bool) → ◌≡◌ {A = ℕ} (cond y 0 256) 256 → y ≡ false
    by true e = let z : ◌≡◌ {A = ℕ} 0 256 = e in absurd (omega arith)
    by false e = refl

-- no greatest is more than a word holds
greatest_low : (i : ℕ) → get_or slot_greatest i 0 ≤ 4294967295
greatest_low i = most_at 4294967295 slot_greatest i all
  where
    five : (l : List ℕ) → AllAtMost 4294967295 l → AllAtMost 4294967295 (400000 ∷ 400000 ∷ 1 ∷ 1 ∷ 3200000 ∷ l)
    five l a = (omega arith, (omega arith, (omega arith, (omega arith, (omega arith, a)))))

    counts : (n : ℕ) (l : List ℕ) → AllAtMost 4294967295 l → AllAtMost 4294967295 (replicate n 400000 ++ l)
    counts zero l a = a
    counts (suc n) l a = (omega arith, counts n l a)

    all : AllAtMost 4294967295 slot_greatest
    all = counts 11 (drop 11 slot_greatest) (five (drop 16 slot_greatest) (five (drop 21 slot_greatest) (five (drop 26 slot_greatest) (five (drop 31 slot_greatest) (five (drop 36 slot_greatest) (five (drop 41 slot_greatest) (five (drop 46 slot_greatest) (five [] tt))))))))

-- every figure of the pending second, and as it is reported, fits its word
module _ (s : Late) (r : LateIn s) where
  fits : (v : List ℕ) → figures_ranged v ≡ true → (length (s.tandem.base.seconds ∷ v) ≡ 52) × ((i : ℕ) → get_or (s.tandem.base.seconds ∷ v) i 0 ≤ 4294967295)
  fits v e = (ap suc (below_long slot_greatest v e), most)
    where
      most : (i : ℕ) → get_or (s.tandem.base.seconds ∷ v) i 0 ≤ 4294967295
      most zero = r.tandem.base.seconds
      most (suc i) = omega (arith, below_all slot_greatest v e i, greatest_low i)

  next_figures : (marked_of s.tandem).refusal ≡ 0 → (late_marked s).figures ≡ next_report s
  unfolding late_marked
  next_figures e = rw e

  next_fits : (length (next_report s) ≡ 52) × ((i : ℕ) → get_or (next_report s) i 0 ≤ 4294967295)
  next_fits =
      fits _ (voided_ranged (section_erred s.tandem) (levels_erred s.tandem) s.pending (length-map s.tandem.levels level_erred ∙ r.tandem.six) r.pending)

  pending_fits : (length (pending_of s).figures ≡ 52) × ((i : ℕ) → get_or (pending_of s).figures i 0 ≤ 4294967295)
  unfolding pending_of
  pending_fits = fits s.pending r.pending

-- the second told by the next mark, the pending one, and a frame
module _ (b : List ℕ) (c : Course) (on : FromFresh b c) (r : LateIn (sup_at c)) (says : ByPage b c) where
  some_closed : eqb (closed_by c) 0 ≡ false → 1 ≤ closed_by c
  some_closed e = let h = eqb-false (closed_by c) 0 e in omega (arith, h)

  next_demand : (out : List ℕ) → act_answer b (otn_mark out) ≡ 256 → length out ≡ 208 → RecordedSecond (next_reported c) (act_fills b (otn_mark out))
  next_demand out e k =
      let m = told_mark c (sym (says.marks out) ∙ e) in
      let taken : (marked_of (tandem_at c)).refusal ≡ 0 = mark_taken b c on m.0 in
      let f : act_fills b (otn_mark out) ≡ poured out (flat (next_reported c)) = says.records out ∙ rw (m.0, m.1) in
      let is : next_report (sup_at c) ≡ next_reported c =
      sym (next_figures (sup_at c) r (ap (λ (x : Tandem). (marked_of x).refusal) on.same ∙ taken)) ∙ next_is b c on m.0 m.1 in
      let fit = subst (λ (v : List ℕ). (length v ≡ 52) × ((i : ℕ) → get_or v i 0 ≤ 4294967295)) is (next_fits (sup_at c) r) in
      let more = taken_more (fresh_tandem (fresh_of c.settings)) c.calls marks on.taken taken in
      let count = marks_append c.calls (marks ∷ []) in
      let told = reported c.settings on.settings (c.calls ++ (marks ∷ [])) more in
      let d = told.demand (closed_by c) (some_closed m.1) (omega (arith, count)) in
      let u = told.bounds (closed_by c) (some_closed m.1) (omega (arith, count)) in
      rw f (recorded_by (next_reported c) out fit.0 fit.1 d u k)

  pending_demand : (out : List ℕ) → act_answer b (otn_pending out) ≡ 256 → length out ≡ 208 → RecordedSecond (pending_now c) (act_fills b (otn_pending out))
  pending_demand out e k =
      let m = told_pending c (sym (says.pendings out) ∙ e) in
      let f : act_fills b (otn_pending out) ≡ poured out (flat (pending_now c)) = says.pending_fills out ∙ rw m in
      let fit = subst (λ (v : List ℕ). (length v ≡ 52) × ((i : ℕ) → get_or v i 0 ≤ 4294967295)) (pending_now_lem b c on m) (pending_fits (sup_at c) r) in
      let told = reported c.settings on.settings c.calls on.taken in
      let d = told.demand (closed_by c) (some_closed m) (omega arith) in
      let u = told.bounds (closed_by c) (some_closed m) (omega arith) in
      rw f (recorded_by (pending_now c) out fit.0 fit.1 d u k)

  frame_reports : (f : Frame) (counts : List ℕ) → act_refusal b (otn_step f counts) ≡ 0 → ReportedCause c.settings (act_answer b (otn_step f counts))
  unfolding refused_on answer_on refusal_of
  frame_reports f counts e =
      let t : Tandem = (sup_at c).tandem in
      let z : refusal_at t f counts ≡ 0 = sym (on.refuses (otn_step f counts)) ∙ e in
      rw (on.answers (otn_step f counts), z, report_is t f counts z)
      (subst⁻¹ (λ (x : Tandem). ReportedCause c.settings (report_word (report_of (stands_at x.base f) f.sm f.pm))) on.same
      (reported_at b c on f (plain_accepts (tandem_at c) f counts (ap (λ (x : Tandem). refusal_at x f counts) (sym on.same) ∙ z))))

pub byte_demand_3 : EveryByteDemand3
byte_demand_3 sup p uses e a =
    let b : List ℕ = bytes_after (fresh_sup sup p) uses in
    let c : Course = course_of p uses in
    let on : FromFresh b c = from_fresh_lem sup p uses e a in
    let r : LateIn (sup_at c) = (kept_from sup p uses e a).good.ranged in
    let says : ByPage b c = by_page sup p uses e a in
    record { recorded = next_demand b c on r says; pending = pending_demand b c on r says; causes = frame_reports b c on r says }

-- n values of a function in a row, before others
abbrev row : ℕ → (ℕ → ℕ) → List ℕ → List ℕ
row zero f rest = rest
row (suc n) f rest = f 0 ∷ row n (λ k. f (suc k)) rest

row_at : (n : ℕ) (f : ℕ → ℕ) (rest : List ℕ) (k : ℕ) → k < n → get_or (row n f rest) k 0 ≡ f k
row_at zero f rest k h = absurd (not-suc-le-zero h)
row_at (suc n) f rest zero h = refl
row_at (suc n) f rest (suc k) h = row_at n (λ i. f (suc i)) rest k (le_of_suc-le-suc h)

-- the figures of a closed second stand in the places of the table
pub record_back : EveryRecordBack
record_back n c = record {
  reads = (refl, (refl, (refl, (refl, (refl, (refl, (refl, (refl, (refl, (refl, (refl, (refl, (refl, tt)))))))))))));
  under = λ head h. sym (get_or-drop 2 (figures_of n c) head 0) ∙ row_at 10 (λ k. get_or c.heads k 0) (drop 12 (figures_of n c)) head h;
}

-- the words of a level stand behind those of line, section and path
word_of : (figures : List ℕ) (n : ℕ) → 1 ≤ n → (i : ℕ) → i < 5 → get_or figures (22 + 5 * (n - 1) + i) 0 ≡ get_or (group_at figures n) i 0
word_of figures n low i h =
    let e : 22 + 5 * (n - 1) + i ≡ (17 + 5 * n) + i = omega (arith, low) in
    ap (λ (m : ℕ). get_or figures m 0) e ∙ sym (get_or-drop (17 + 5 * n) figures i 0) ∙ sym (get_or-take 5 (drop (17 + 5 * n) figures) i 0 h)

pub level_words_lem : EveryLevelWords
unfolding five_of
level_words_lem t n six low high taken given =
    let g : group_at (marked_of t).figures n ≡ five_of (level_at t.levels n) = own_figures t n six low high taken in
    let at : (i : ℕ) → i < 5 → get_or (marked_of t).figures (22 + 5 * (n - 1) + i) 0 ≡ get_or (five_of (level_at t.levels n)) i 0 =
    λ i h. word_of (marked_of t).figures n low i h ∙ ap (λ (l : List ℕ). get_or l i 0) g in
    (at 0 (lit< tt) ∙ rw given, (at 1 (lit< tt) ∙ rw given, (at 2 (lit< tt) ∙ rw given, (at 3 (lit< tt) ∙ rw given, (at 4 (lit< tt) ∙ rw given, tt)))))
