-- The summaries of the stretches of a history. Assumes nothing.
use Prim.Native.Nat.{ℕ, zero, suc, ◌+◌, ◌*◌, ◌≤◌}
use mathlib.Core.Path.{◌≡◌, refl, sym, ap, ap₂, ◌∙◌, subst, subst⁻¹}
use mathlib.Core.List.{List, [], ◌∷◌, ◌++◌, map, map-append}
use native.Mathlib.Nat.{suc-mul}
use native.Mathlib.Omega.{arith}
use lib.ListN.{length, get_or}
use borrow.Author.Tests.{lt-ltb}
use Rattle.settings.specs.Ranges.{SettingsIn}
use Rattle.settings.specs.declared.Settings.{Settings}
use Rattle.supervisor.specs.Supervisor.{fresh_of}
use Rattle.page.specs.Page.{Taken}
use Rattle.page.proofs.Refusals.{accepted_taken}
use Rattle.tandem.specs.Tandem.{fresh_tandem}
use Rattle.watch.specs.Watch.{LevelCall, marks, AllTaken}
use Rattle.reports.specs.Reports.{plain_of, marks_in, before_mark, second_at, up_to}
use Rattle.reports.proofs.Lists.{taken_parts, marks_append, marks_plain, MarkAt, mark_at, before_append}
use Rattle.reports.proofs.Figures.{accepted_is}
use Rattle.reports.proofs.Reports.{reported}
use Rattle.summary.specs.Summary.{empty_summary, join_of, second_of}
use Rattle.summary.specs.Laws.{Sound, joined}
use Rattle.summary.specs.Stretch.{summary_of, SecondIn, Numbered, join_all, pieced, ten_of, Filed, EachBounded}
use Rattle.summary.specs.declared.Summary.{Summary}
use Rattle.summary.proofs.Stretch.{stretch_valid, neighbours, every_cut, heads_whole, second_alone, bounds}
use Rattle.stretch.specs.Stretches.{seconds_from, stretch, singles, quarter_of, quarters, day_of, EveryStretches}
use Rattle.stretch.proofs.Counts.{held_low, marks_low}
use Rattle.stretch.proofs.Figures.{number_is, fourteen, fifteen, nineteen, twenty, heads_are, second_low}

-- Stretches as lists.
module _ (p : Settings) (cs : List LevelCall) where
  abbrev from : ℕ → ℕ → List (List ℕ)
  from i n = seconds_from p cs i n

  long_is : (i n : ℕ) → length (from i n) ≡ n
  unfolding seconds_from
  long_is i zero = refl
  long_is i (suc n) = omega (arith, long_is (suc i) n)

  -- two neighbours are one stretch
  both_is : (i n m : ℕ) → from i (n + m) ≡ from i n ++ from (i + n) m
  unfolding seconds_from
  both_is i zero m =
      let a : 0 + m ≡ m = omega arith in
      let b : i + 0 ≡ i = omega arith in
      rw (a, b)
  both_is i (suc n) m =
      let a : suc n + m ≡ suc (n + m) = omega arith in
      let b : suc i + n ≡ i + suc n = omega arith in
      rw (a, ← b) (ap (λ (l : List (List ℕ)). second_at p cs i ∷ l) (both_is (suc i) n m))

  -- seconds 1 to m
  pub up_to_lem : (m : ℕ) → map (second_at p cs) (up_to m) ≡ from 1 m
  unfolding up_to seconds_from
  up_to_lem zero = refl
  up_to_lem (suc m) =
      let a : suc m ≡ 1 + m = omega arith in
      let b : m + 1 ≡ suc m = omega arith in
      map-append (second_at p cs) (up_to m) (suc m ∷ [])
      ∙ ap₂ (λ (l : List (List ℕ)) (i : ℕ). l ++ (second_at p cs i ∷ [])) (up_to_lem m) a
      ∙ sym (both_is 1 m 1)
      ∙ ap (from 1) b

  -- a stretch cut into n of w seconds
  pieces : ℕ → ℕ → ℕ → List (List (List ℕ))
  pieces w i zero = []
  pieces w i (suc n) = from i w ∷ pieces w (i + w) n

  pieced_is : (w i n : ℕ) → pieced (pieces w i n) ≡ from i (n * w)
  unfolding pieces pieced seconds_from
  pieced_is w i zero = let a : 0 * w ≡ 0 = omega arith in rw a
  pieced_is w i (suc n) =
      let a : suc n * w ≡ w + n * w = omega (arith, suc-mul n w) in
      rw (pieced_is w (i + w) n, a) (sym (both_is i w (n * w)))

  -- the seconds that marks have reported stay
  module _ (more : List LevelCall) where
    second_stays : (i : ℕ) → 1 ≤ i → i + 1 ≤ marks_in cs → second_at p (cs ++ more) i ≡ second_at p cs i
    second_stays i low high =
        let all : marks_in (cs ++ more) ≡ marks_in cs + marks_in more = marks_append cs more in
        rw (
          lt-ltb i (marks_in (cs ++ more)) (omega (arith, high, all)),
          lt-ltb i (marks_in cs) (omega (arith, high)),
          before_append i cs more low (omega (arith, high)),
          before_append (i + 1) cs more (omega arith) high,
        )

    from_stays : (i n : ℕ) → 1 ≤ i → i + n ≤ marks_in cs → seconds_from p (cs ++ more) i n ≡ from i n
    unfolding seconds_from
    from_stays i zero low high = refl
    from_stays i (suc n) low high =
        ap₂ (λ (x : List ℕ) (l : List (List ℕ)). x ∷ l) (second_stays i low (omega (arith, high))) (from_stays (suc i) n (omega arith) (omega (arith, high)))

-- The seconds of accepted calls.
module _ (p : Settings) (v : SettingsIn p) (cs : List LevelCall) (a : AllTaken (fresh_tandem (fresh_of p)) cs) where
  taken : Taken (plain_of cs)
  taken = accepted_taken p v (plain_of cs) (accepted_is p v cs a)

  -- "a mark when 4,294,967,295 seconds are closed" is refused
  pub last_is : marks_in cs ≤ 4294967295
  last_is = omega (arith, marks_low (plain_of cs) taken, marks_plain cs)

  -- one second
  module _ (i : ℕ) (low : 1 ≤ i) (high : i ≤ marks_in cs) where
    abbrev before : List LevelCall
    before = before_mark i cs

    abbrev at : MarkAt i cs
    at = mark_at i cs low high

    before_taken : AllTaken (fresh_tandem (fresh_of p)) before
    before_taken =
        (taken_parts (fresh_tandem (fresh_of p)) before (marks ∷ at.rest) (subst (λ (x : List LevelCall). AllTaken (fresh_tandem (fresh_of p)) x) at.is a)).0

    pub numbered : get_or (second_at p cs i) 0 0 ≡ i
    numbered = number_is p before _ ∙ omega (arith, at.number, marks_plain before)

    pub second_in : SecondIn (second_at p cs i)
    second_in = second_low p before _ (held_low (plain_of before) (accepted_taken p v (plain_of before) (accepted_is p v before before_taken)))

    single : second_of (second_at p cs i) ≡ stretch p cs i 1
    unfolding seconds_from
    single = second_alone (second_at p cs i) (fourteen p before _) (fifteen p before _) (nineteen p before _) (twenty p before _)

    filed : ten_of (λ (k : ℕ). get_or (second_at p cs i) (k + 2) 0) ≡ get_or (second_at p cs i) 1 0
    filed = heads_are p before _ ((reported p v cs a).demand i low high)

  -- a stretch of them
  numbered_from : (i n : ℕ) → 1 ≤ i → i + n ≤ marks_in cs + 1 → Numbered i (from p cs i n)
  unfolding seconds_from
  numbered_from i zero low high = tt
  numbered_from i (suc n) low high =
      let one : i ≤ marks_in cs = omega (arith, high) in
      (numbered i low one, (second_in i low one, numbered_from (suc i) n (omega arith) (omega (arith, high))))

  filed_from : (i n : ℕ) → 1 ≤ i → i + n ≤ marks_in cs + 1 → Filed (from p cs i n)
  unfolding seconds_from
  filed_from i zero low high = tt
  filed_from i (suc n) low high =
      let one : i ≤ marks_in cs = omega (arith, high) in
      (filed i low one, filed_from (suc i) n (omega arith) (omega (arith, high)))

  bounded_from : (i n : ℕ) → 1 ≤ i → i + n ≤ marks_in cs + 1 → EachBounded (from p cs i n)
  unfolding seconds_from
  bounded_from i zero low high = tt
  bounded_from i (suc n) low high =
      let b = (reported p v cs a).bounds i low (omega (arith, high)) in
      (b.section, (b.path, bounded_from (suc i) n (omega arith) (omega (arith, high))))

  -- the summary of a stretch is one by 26
  module _ (i n : ℕ) (low : 1 ≤ i) (high : i + n ≤ marks_in cs + 1) where
    sound : n ≤ 86400 → Sound (stretch p cs i n)
    unfolding summary_of
    sound long =
        let e : length (from p cs i n) ≡ n = long_is p cs i n in
        record {
          valid = stretch_valid i (from p cs i n) low (omega (arith, e, last_is)) (omega (arith, e)) (numbered_from i n low high);
          ten = refl;
        }

    -- whatever it is cut into
    cut : (ps : List (List (List ℕ))) → pieced ps ≡ from p cs i n → n ≤ 86400 → join_all empty_summary (map summary_of ps) ≡ joined (stretch p cs i n)
    cut ps e long =
        let l : length (pieced ps) ≡ n = ap (λ (x : List (List ℕ)). length x) e ∙ long_is p cs i n in
        every_cut i ps low (omega (arith, l, last_is)) (omega (arith, l)) (subst⁻¹ (λ (x : List (List ℕ)). Numbered i x) e (numbered_from i n low high))
        ∙ ap (λ (x : List (List ℕ)). joined (summary_of x)) e

  neighbours_are : (i n m : ℕ) → 1 ≤ i → i + (n + m) ≤ marks_in cs + 1 → n + m ≤ 86400
      → join_of (stretch p cs i n) (stretch p cs (i + n) m) ≡ joined (stretch p cs i (n + m))
  neighbours_are i n m low high long =
      let e : length (from p cs i n) ≡ n = long_is p cs i n in
      let f : length (from p cs (i + n) m) ≡ m = long_is p cs (i + n) m in
      let g : i + n ≡ i + length (from p cs i n) = omega (arith, e) in
      neighbours i (from p cs i n) (from p cs (i + n) m) low (omega (arith, e, f, last_is)) (omega (arith, e, f)) (numbered_from i n low (omega arith))
      (subst (λ (k : ℕ). Numbered k (from p cs (i + n) m)) g (numbered_from (i + n) m (omega arith) (omega arith)))
      ∙ ap (λ (x : List (List ℕ)). joined (summary_of x)) (sym (both_is p cs i n m))

  -- the seconds one by one, and the quarter-hours one by one
  singles_are : (i n : ℕ) → 1 ≤ i → i + n ≤ marks_in cs + 1 → singles p cs i n ≡ map summary_of (pieces p cs 1 i n)
  unfolding singles pieces
  singles_are i zero low high = refl
  singles_are i (suc n) low high =
      let next : suc i ≡ i + 1 = omega arith in
      ap₂ (λ (x : Summary) (y : List Summary). x ∷ y) (single i low (omega arith))
      (ap (λ (k : ℕ). singles p cs k n) next ∙ singles_are (i + 1) n (omega arith) (omega (arith, high)))

  quarters_are : (q n : ℕ) → quarters p cs q n ≡ map summary_of (pieces p cs 900 (900 * q + 1) n)
  unfolding quarters pieces
  quarters_are q zero = refl
  quarters_are q (suc n) =
      let next : 900 * suc q + 1 ≡ 900 * q + 1 + 900 = omega arith in
      ap (λ (y : List Summary). quarter_of p cs q ∷ y) (quarters_are (suc q) n ∙ ap (λ (k : ℕ). map summary_of (pieces p cs 900 k n)) next)

  quarter_is : (q : ℕ) → 900 * q + 900 ≤ marks_in cs → join_all empty_summary (singles p cs (900 * q + 1) 900) ≡ joined (quarter_of p cs q)
  quarter_is q all =
      let low : 1 ≤ 900 * q + 1 = omega arith in
      let high : 900 * q + 1 + 900 ≤ marks_in cs + 1 = omega arith in
      ap (join_all empty_summary) (singles_are (900 * q + 1) 900 low high)
      ∙ cut (900 * q + 1) 900 low high (pieces p cs 1 (900 * q + 1) 900) (pieced_is p cs 1 (900 * q + 1) 900) (omega arith)

  day_is : (d : ℕ) → 86400 * d + 86400 ≤ marks_in cs → join_all empty_summary (quarters p cs (96 * d) 96) ≡ joined (day_of p cs d)
  day_is d all =
      let first : 900 * (96 * d) + 1 ≡ 86400 * d + 1 = omega arith in
      ap (join_all empty_summary) (quarters_are (96 * d) 96 ∙ ap (λ (k : ℕ). map summary_of (pieces p cs 900 k 96)) first)
      ∙ cut (86400 * d + 1) 86400 (omega arith) (omega arith) (pieces p cs 900 (86400 * d + 1) 96) (pieced_is p cs 900 (86400 * d + 1) 96) (omega arith)

pub stretches : EveryStretches
stretches p v cs a = record {
  told = (reported p v cs a).all ∙ up_to_lem p cs (marks_in cs);
  sound = sound p v cs a;
  neighbours = λ i n m low high long. neighbours_are p v cs a i n m low high (omega arith);
  stays = λ more i n low high. ap summary_of (from_stays p cs more i n low high);
  single = single p v cs a;
  quarter = quarter_is p v cs a;
  day = day_is p v cs a;
  bounded = λ i n low high. bounds (from p cs i n) (bounded_from p v cs a i n low high);
  whole = λ i n low high. heads_whole (from p cs i n) (filed_from p v cs a i n low high);
}
