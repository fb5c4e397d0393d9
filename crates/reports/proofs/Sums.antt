-- The sums of far-end violations in a second's figures: against the far-end blocks, and what the figures are without them. Assumes nothing.
use Prim.Native.Nat.{ℕ, zero, suc, ◌+◌, ◌*◌, ◌-◌, ◌≤◌, ◌<◌}
use mathlib.Core.Path.{◌≡◌, refl, ap, ap₂, ◌∙◌}
use mathlib.Core.Bool.{Bool, true, false, cond}
use mathlib.Core.List.{List, ◌++◌}
use native.Mathlib.Omega.{arith}
use lib.ListN.{length, get_or, take, drop, get_or-append}
use lib.Seq.{drop_at, get_or-append-add}
use Rattle.answer.specs.Bounded.{Bounded}
use Rattle.settings.specs.declared.Settings.{Settings}
use Rattle.page.specs.Page as page
use Rattle.page.proofs.Seconds.{section_bounded, path_bounded}
use Rattle.watch.specs.Watch.{LevelCall}
use Rattle.sheet.specs.Sheet as sheet
use Rattle.sheet.specs.Sheet.{Provisioned, never, with, provisioned}
use Rattle.sheet.proofs.Seconds.{far_bounded}
use Rattle.reports.specs.Reports.{history_of, plain_of, Next, either, section_five, group_by, groups_from, report_of, SumBounds, group_before, groups_before, fours_in, SameBefore}
use Rattle.reports.proofs.Figures.{five_long}

-- where both are discarded, and where not
kept_bounded : (gone : Bool) (far sum : ℕ) → Bounded far sum → Bounded (cond gone 0 far) (cond gone 0 sum)
kept_bounded true far sum b = omega arith
kept_bounded false far sum b = b

group_bounded : (p : Settings) (n : ℕ) (w : Provisioned) (cs : List LevelCall) (next : Next)
    → Bounded (get_or (group_by p n w cs next) 1 0) (get_or (group_by p n w cs next) 4 0)
unfolding group_by
group_bounded p n never cs next = omega arith
group_bounded p n (with o) cs next =
    kept_bounded (either (λ k. sheet.far_discarded p n o (history_of k)) cs next) _ _ (far_bounded p n (plain_of cs))

module _ (p : Settings) (cs : List LevelCall) (next : Next) where
  abbrev group : ℕ → List ℕ
  group n = group_by p n (provisioned n cs) cs next

  -- figure j of the i-th of the groups from n on
  in_group : (k n i j : ℕ) → i < k → j < 5 → get_or (groups_from k n p cs next) (5 * i + j) 0 ≡ get_or (group (n + i)) j 0
  unfolding groups_from
  in_group zero n i j h l = absurd (omega (arith, h))
  in_group (suc k) n zero j h l =
      let long : length (group n) ≡ 5 = five_long p n (provisioned n cs) cs next in
      ap (λ (m : ℕ). get_or (group n ++ groups_from k (suc n) p cs next) m 0) (omega arith)
      ∙ get_or-append (group n) (groups_from k (suc n) p cs next) 0 j (omega (arith, long, l))
      ∙ ap (λ (m : ℕ). get_or (group m) j 0) (omega arith)
  in_group (suc k) n (suc i) j h l =
      let long : length (group n) ≡ 5 = five_long p n (provisioned n cs) cs next in
      ap (λ (m : ℕ). get_or (group n ++ groups_from k (suc n) p cs next) m 0) (omega (arith, long))
      ∙ get_or-append-add (group n) (groups_from k (suc n) p cs next) (5 * i + j) 0
      ∙ in_group k (suc n) i j (omega (arith, h)) l
      ∙ ap (λ (m : ℕ). get_or (group m) j 0) (omega arith)

  abbrev first : List ℕ
  first = take 12 (page.figures p (plain_of cs)) ++ (section_five p cs next ++ drop 17 (page.figures p (plain_of cs)))

  -- figure j of level n
  of_level : (n j : ℕ) → 1 ≤ n → n ≤ 6 → j < 5 → get_or (report_of p cs next) (17 + 5 * n + j) 0 ≡ get_or (group n) j 0
  unfolding report_of
  of_level n j low high l =
      let e : 17 + 5 * n + j ≡ 22 + (5 * (n - 1) + j) = omega (arith, low) in
      ap (λ (m : ℕ). get_or (first ++ groups_from 6 1 p cs next) m 0) e
      ∙ get_or-append-add first (groups_from 6 1 p cs next) (5 * (n - 1) + j) 0
      ∙ in_group 6 1 (n - 1) j (omega (arith, low, high)) l
      ∙ ap (λ (m : ℕ). get_or (group m) j 0) one_more
    where
      one_more : 1 + (n - 1) ≡ n
      one_more = omega (arith, low)

  level_bounded : (n : ℕ) → 1 ≤ n → n ≤ 6 → Bounded (get_or (report_of p cs next) (18 + 5 * n) 0) (get_or (report_of p cs next) (21 + 5 * n) 0)
  level_bounded n low high =
      let f : get_or (report_of p cs next) (18 + 5 * n) 0 ≡ get_or (group n) 1 0 =
      ap (λ (m : ℕ). get_or (report_of p cs next) m 0) (omega arith) ∙ of_level n 1 low high (omega arith) in
      let s : get_or (report_of p cs next) (21 + 5 * n) 0 ≡ get_or (group n) 4 0 =
      ap (λ (m : ℕ). get_or (report_of p cs next) m 0) (omega arith) ∙ of_level n 4 low high (omega arith) in
      let b = group_bounded p n (provisioned n cs) cs next in
      (omega (arith, f, s, b.0), omega (arith, f, s, b.1))

  -- bounds
  pub sum_bounds : SumBounds (report_of p cs next)
  unfolding report_of
  sum_bounds = record {
    section = kept_bounded (either (λ k. page.far_discarded p (plain_of k)) cs next) _ _ (section_bounded p (plain_of cs));
    path = path_bounded p (plain_of cs);
    level = level_bounded;
  }

  -- the levels' groups without their sums
  four_of_lem : (n : ℕ) (w : Provisioned) (rest : List ℕ) → take 4 (group_by p n w cs next ++ rest) ≡ group_before p n w cs next
  unfolding group_by group_before
  four_of_lem n never rest = refl
  four_of_lem n (with o) rest = refl

  fours_are : (k n : ℕ) → fours_in k (groups_from k n p cs next) ≡ groups_before k n p cs next
  unfolding fours_in groups_from groups_before
  fours_are zero n = refl
  fours_are (suc k) n =
      let rest : List ℕ = groups_from k (suc n) p cs next in
      ap₂ (λ (x y : List ℕ). x ++ fours_in k y) (four_of_lem n (provisioned n cs) rest) (drop_at (group n) rest 5 (five_long p n (provisioned n cs) cs next))
      ∙ ap (λ (x : List ℕ). group_before p n (provisioned n cs) cs next ++ x) (fours_are k (suc n))

pub same_far : SameBefore
unfolding report_of fours_in
same_far p cs next = ap (λ (x : List ℕ). take 12 (report_of p cs next) ++ (take 4 (drop 12 (report_of p cs next)) ++ (take 4 (drop 17 (report_of p cs next)) ++ x))) (fours_are p cs next 6 1)
