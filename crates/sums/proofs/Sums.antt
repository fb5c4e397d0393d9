-- Summaries of what calls from C report, in their bytes. Assumes nothing.
use mathlib.Core.Path.{◌≡◌, refl, sym, ap, ◌∙◌}
use mathlib.Core.Bool.{false}
use mathlib.Core.List.{List, [], ◌∷◌}
use Prim.Native.Nat.{ℕ, ◌+◌, ◌≤◌, ◌<◌}
use native.Mathlib.Omega.{arith}
use lib.Dec.{lit<, eqb}
use lib.ListN.{length, get_or, take, length-take}
use borrow.Author.Tests.{eqb-false}
use Rattle.answer.proofs.Overs.{over_length}
use Rattle.codec.specs.Over.{poured}
use Rattle.words.specs.Words.{flat, words_in}
use Rattle.words.proofs.Words.{word_of, words_room}
use Rattle.settings.specs.declared.Settings.{Settings}
use Rattle.supervisor.specs.Supervisor.{fresh_of}
use Rattle.tandem.specs.Tandem.{fresh_tandem}
use Rattle.watch.specs.Watch.{LevelCall, marks, events_among}
use Rattle.reports.specs.Reports.{marks_in}
use Rattle.reports.proofs.Lists.{marks_append}
use Rattle.summary.specs.Summary.{valid_of, second_of}
use Rattle.summary.specs.Laws.{Sound}
use Rattle.summary.specs.declared.Summary.{Summary}
use Rattle.stretch.specs.Stretches.{stretch, Stretches}
use Rattle.stretch.proofs.Stretches.{stretches}
use Rattle.pack.specs.Pack.{summary_bytes, SummaryCall, JoinCall}
use Rattle.pack.proofs.Calls.{summarized}
use Rattle.card.specs.Calls.{fresh_sup}
use Rattle.calls.specs.History.{otn_mark, otn_pending, act_answer, act_fills, bytes_after, Course, course_of, FromFresh}
use Rattle.calls.specs.ByPage.{mark_refused, closed_by, next_reported, pending_now, ByPage}
use Rattle.calls.specs.Demand.{RecordedSecond, ByteDemand3}
use Rattle.calls.proofs.Histories.{taken_more, from_fresh_lem}
use Rattle.calls.proofs.ByPage.{mark_taken, by_page}
use Rattle.calls.proofs.Demand.{told_mark, told_pending, byte_demand_3}
use Rattle.sums.specs.Sums.{stretch_bytes, with_mark, ByteSums, EveryByteSums}
use Rattle.sums.proofs.Joins.{bytes_join}

-- a record keeps its length
poured_long : (d v : List ℕ) → length (poured d v) ≡ length d
unfolding poured
poured_long d v = over_length d 0 (take (length d) v) (omega (arith, length-take (length d) v))

-- the summary of a record that has a second's figures, where these are a stretch of one
module _ (figures r out : List ℕ) (s : Summary) (w : RecordedSecond figures r) (long : length r ≡ 208) (is : second_of figures ≡ s) (sound : Sound s) where
  abbrev first : List ℕ
  first = words_in 22 0 r

  word : (i : ℕ) → i < 22 → get_or first i 0 ≡ get_or figures i 0
  word i h = ap (λ (l : List ℕ). get_or l i 0) (words_room 22 0 r (omega (arith, long))) ∙ word_of 22 r i h ∙ w.words i (omega (arith, h))

  same : second_of first ≡ second_of figures
  unfolding second_of
  same =
      rw (
        word 0 (lit< tt),
        word 1 (lit< tt),
        word 2 (lit< tt),
        word 3 (lit< tt),
        word 4 (lit< tt),
        word 5 (lit< tt),
        word 6 (lit< tt),
        word 7 (lit< tt),
        word 8 (lit< tt),
        word 9 (lit< tt),
        word 10 (lit< tt),
        word 11 (lit< tt),
        word 12 (lit< tt),
        word 13 (lit< tt),
        word 14 (lit< tt),
        word 15 (lit< tt),
        word 16 (lit< tt),
        word 17 (lit< tt),
        word 18 (lit< tt),
        word 19 (lit< tt),
        word 20 (lit< tt),
        word 21 (lit< tt),
      )

  made : second_of first ≡ s
  made = same ∙ is

  recorded_sum : SummaryCall r out 0 (poured out (summary_bytes s))
  recorded_sum =
      summarized r out first (second_of first) (valid_of (second_of first)) (omega (arith, long)) refl refl refl (poured out (summary_bytes s)) (ap valid_of made ∙ sound.valid)
      (ap (λ (x : Summary). poured out (summary_bytes x)) (sym made))

-- two neighbouring stretches
neighbours_sum : (p : Settings) (cs : List LevelCall) → Stretches p cs → (i n m : ℕ) (out : List ℕ) → 1 ≤ i → i + (n + m) ≤ marks_in cs + 1 → n + m ≤ 86400
    → JoinCall (stretch_bytes p cs i n) (stretch_bytes p cs (i + n) m) out 0 (poured out (stretch_bytes p cs i (n + m)))
neighbours_sum p cs says i n m out low high long =
    bytes_join (stretch p cs i n) (stretch p cs (i + n) m) (stretch p cs i (n + m)) (says.neighbours i n m low high long) (says.sound i n low (omega arith) (omega arith))
    (says.sound (i + n) m (omega arith) (omega arith) (omega arith)) out

module _ (b : List ℕ) (c : Course) (on : FromFresh b c) (page : ByPage b c) (demand : ByteDemand3 b c) where
  abbrev now : Stretches c.settings c.calls
  now = stretches c.settings on.settings c.calls on.taken

  some_closed : eqb (closed_by c) 0 ≡ false → 1 ≤ closed_by c
  some_closed e = let h = eqb-false (closed_by c) 0 e in omega (arith, h)

  -- the next mark, where it reports
  module _ (r : List ℕ) (e : act_answer b (otn_mark r) ≡ 256) where
    told : (mark_refused c ≡ 0) × (eqb (closed_by c) 0 ≡ false)
    told = told_mark c (sym (page.marks r) ∙ e)

    then : Stretches c.settings (with_mark c)
    then = stretches c.settings on.settings (with_mark c) (taken_more (fresh_tandem (fresh_of c.settings)) c.calls marks on.taken (mark_taken b c on told.0))

    count : marks_in (with_mark c) ≡ closed_by c + 1
    unfolding events_among
    count = marks_append c.calls (marks ∷ [])

    mark_sum : (out : List ℕ) → length r ≡ 208 → SummaryCall (act_fills b (otn_mark r)) out 0 (poured out (stretch_bytes c.settings (with_mark c) (closed_by c) 1))
    mark_sum out k =
        let f : act_fills b (otn_mark r) ≡ poured r (flat (next_reported c)) = page.records r ∙ rw (told.0, told.1) in
        let low : 1 ≤ closed_by c = some_closed told.1 in
        recorded_sum (next_reported c) (act_fills b (otn_mark r)) out (stretch c.settings (with_mark c) (closed_by c) 1) (demand.recorded r e k)
        (ap (λ (l : List ℕ). length l) f ∙ poured_long r (flat (next_reported c)) ∙ k) (then.single (closed_by c) low (omega (arith, count)))
        (then.sound (closed_by c) 1 low (omega (arith, count)) (omega arith))

    kept_sum : (out : List ℕ) (i n : ℕ) → 1 ≤ i → i + n ≡ closed_by c → n + 1 ≤ 86400
        → JoinCall (stretch_bytes c.settings c.calls i n) (stretch_bytes c.settings (with_mark c) (closed_by c) 1) out 0
        (poured out (stretch_bytes c.settings (with_mark c) i (n + 1)))
    kept_sum out i n low is long =
        let x : stretch_bytes c.settings (with_mark c) i n ≡ stretch_bytes c.settings c.calls i n = ap summary_bytes (now.stays (marks ∷ []) i n low (omega (arith, is))) in
        rw (← x, ← is) (neighbours_sum c.settings (with_mark c) then i n 1 out low (omega (arith, is, count)) long)

  pending_sum : (r out : List ℕ) → act_answer b (otn_pending r) ≡ 256 → length r ≡ 208
      → SummaryCall (act_fills b (otn_pending r)) out 0 (poured out (stretch_bytes c.settings c.calls (closed_by c) 1))
  pending_sum r out e k =
      let m : eqb (closed_by c) 0 ≡ false = told_pending c (sym (page.pendings r) ∙ e) in
      let f : act_fills b (otn_pending r) ≡ poured r (flat (pending_now c)) = page.pending_fills r ∙ rw m in
      let low : 1 ≤ closed_by c = some_closed m in
      recorded_sum (pending_now c) (act_fills b (otn_pending r)) out (stretch c.settings c.calls (closed_by c) 1) (demand.pending r e k)
      (ap (λ (l : List ℕ). length l) f ∙ poured_long r (flat (pending_now c)) ∙ k) (now.single (closed_by c) low (omega arith)) (now.sound (closed_by c) 1 low (omega arith) (omega arith))

pub byte_sums : EveryByteSums
byte_sums sup p uses e a =
    let b : List ℕ = bytes_after (fresh_sup sup p) uses in
    let c : Course = course_of p uses in
    let on : FromFresh b c = from_fresh_lem sup p uses e a in
    let page : ByPage b c = by_page sup p uses e a in
    let demand : ByteDemand3 b c = byte_demand_3 sup p uses e a in
    record {
      recorded = λ r out told long. mark_sum b c on page demand r told out long;
      pending = pending_sum b c on page demand;
      joined = λ i n m out low high long. neighbours_sum c.settings c.calls (now b c on page demand) i n m out low high long;
      kept = λ r out i n told low is long. kept_sum b c on page demand r told out i n low is long;
    }
