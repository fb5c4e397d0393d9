-- The figures of a second within their bounds. Assumes nothing.
use Prim.Native.Nat.{ℕ, ◌+◌, ◌≤◌, ◌<◌}
use mathlib.Core.Path.{◌≡◌, refl, ap, sym, ◌∙◌}
use mathlib.Core.Bool.{Bool, false, cond}
use mathlib.Core.List.{List, [], ◌∷◌}
use native.Mathlib.Omega.{arith}
use lib.Dec.{eqb}
use lib.ListN.{get_or, drop, get_or-append}
use lib.Seq.{get_or-drop}
use Rattle.settings.specs.declared.Settings.{Settings}
use Rattle.history.specs.History.{Frame}
use Rattle.history.specs.Ledger.{marks, sum_of}
use Rattle.history.specs.Ranges.{AllAtMost}
use Rattle.history.proofs.Ranges.{most_at}
use Rattle.page.specs.Page as page
use Rattle.watch.specs.Watch.{LevelCall}
use Rattle.reports.specs.Reports.{plain_of, Next, either, report_of, LineDemand3}
use Rattle.reports.proofs.Sums.{sum_bounds}
use Rattle.summary.specs.Stretch.{LayerIn, SecondIn, ten_of}
use Rattle.stretch.proofs.Counts.{flag_low, void_low, tally_low}

ten_sum : (a b c d e f g h i j : ℕ) → sum_of (a ∷ b ∷ c ∷ d ∷ e ∷ f ∷ g ∷ h ∷ i ∷ j ∷ []) ≡ a + b + c + d + e + f + g + h + i + j
ten_sum a b c d e f g h i j = omega arith

module _ (p : Settings) (cs : List LevelCall) (next : Next) where
  -- whether the section's near and far values are voided, and its DS and the path's
  abbrev iae : Bool
  iae = either (λ k. page.discarded p (plain_of k)) cs next

  abbrev far : Bool
  far = either (λ k. page.far_discarded p (plain_of k)) cs next

  abbrev near_ds_lem : Bool
  near_ds_lem = cond iae false (page.some (page.section_near_ds p) (plain_of cs))

  abbrev far_ds_lem : Bool
  far_ds_lem = cond far false (page.some (λ f l. page.section_bdi p (f ∷ l)) (plain_of cs))

  abbrev path_near_ds_lem : Bool
  path_near_ds_lem = page.some (page.path_near_ds p) (plain_of cs)

  abbrev path_far_ds_lem : Bool
  path_far_ds_lem = page.some (λ f l. page.path_bdi p (f ∷ l)) (plain_of cs)

  -- the first figure is the number; the DS are 0 or 1
  pub number_is : get_or (report_of p cs next) 0 0 ≡ marks (plain_of cs) + 1
  unfolding report_of
  number_is = refl

  pub fourteen : get_or (report_of p cs next) 14 0 ≤ 1
  unfolding report_of
  fourteen = flag_low near_ds_lem

  pub fifteen : get_or (report_of p cs next) 15 0 ≤ 1
  unfolding report_of
  fifteen = flag_low far_ds_lem

  pub nineteen : get_or (report_of p cs next) 19 0 ≤ 1
  unfolding report_of
  nineteen = flag_low path_near_ds_lem

  pub twenty : get_or (report_of p cs next) 20 0 ≤ 1
  unfolding report_of
  twenty = flag_low path_far_ds_lem

  -- the ten heads add up to the frames
  pub heads_are : LineDemand3 (report_of p cs next) → ten_of (λ (i : ℕ). get_or (report_of p cs next) (i + 2) 0) ≡ get_or (report_of p cs next) 1 0
  unfolding report_of
  heads_are d = sym (ten_sum _ _ _ _ _ _ _ _ _ _) ∙ d.sum

  -- counts are 400,000 at most, as the frames are, and sums 3,200,000
  module _ (few : page.held (plain_of cs) ≤ 400000) where
    count_low : (q : Frame → List Frame → Bool) → page.tally q (plain_of cs) ≤ 400000
    count_low q = omega (arith, tally_low q (plain_of cs))

    under_low : (k : ℕ) → page.under p k (plain_of cs) ≤ 400000
    under_low k = count_low (λ f l. eqb (page.head p f l) k)

    head_low : (i : ℕ) → i < 10 → get_or (report_of p cs next) (i + 2) 0 ≤ 400000
    unfolding report_of
    head_low i h =
        let u : ℕ → ℕ = λ k. page.under p k (plain_of cs) in
        let heads : List ℕ = u 0 ∷ u 1 ∷ u 2 ∷ u 3 ∷ u 4 ∷ u 5 ∷ u 6 ∷ u 7 ∷ u 8 ∷ u 9 ∷ [] in
        let all : AllAtMost 400000 heads =
        (under_low 0, (under_low 1, (under_low 2, (under_low 3, (under_low 4, (under_low 5, (under_low 6, (under_low 7, (under_low 8, (under_low 9, tt)))))))))) in
        let e : i + 2 ≡ 2 + i = omega arith in
        let g : get_or (report_of p cs next) (i + 2) 0 ≡ get_or heads i 0 =
        ap (λ (m : ℕ). get_or (report_of p cs next) m 0) e
        ∙ sym (get_or-drop 2 (report_of p cs next) i 0)
        ∙ get_or-append heads (drop 12 (report_of p cs next)) 0 i h in
        omega (arith, g, most_at 400000 heads i all)

    section_low : LayerIn (report_of p cs next) 12
    unfolding report_of
    section_low =
        let f : cond far 0 (page.tally (page.section_far p) (plain_of cs)) ≤ 400000 = void_low far (count_low (page.section_far p)) in
        let b = (sum_bounds p cs next).section in
        record { near = void_low iae (count_low (page.section_near p)); far = f; sum = omega (arith, f, b.1) }

    path_low : LayerIn (report_of p cs next) 17
    unfolding report_of
    path_low =
        let f : page.tally (page.path_far p) (plain_of cs) ≤ 400000 = count_low (page.path_far p) in
        let b = (sum_bounds p cs next).path in
        record { near = count_low (page.path_near p); far = f; sum = omega (arith, f, b.1) }

    pub second_low : SecondIn (report_of p cs next)
    unfolding report_of
    second_low = record { frames = few; heads = head_low; section = section_low; path = path_low }
