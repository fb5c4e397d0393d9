-- An accepted provisioning has its numbers in their ranges. Assumes nothing.
use Prim.Native.Nat.{ℕ, ◌≤◌}
use mathlib.Core.Path.{◌≡◌, refl}
use mathlib.Core.Bool.{true}
use mathlib.Core.List.{List}
use native.Mathlib.Omega.{arith}
use lib.Dec.{leb, eqb}
use lib.ListN.{length}
use borrow.Author.Tests.{leb-true, eqb-true}
use Rattle.answer.proofs.Cond.{by_cond, and_left, and_right}
use Rattle.answer.proofs.Checks.{passed}
use Rattle.settings.specs.Settings.{settings_checks, settings_refusal, ceiling_of, thr_good, degm_good, options_of}
use Rattle.settings.specs.Ranges.{OptionsIn, ProvisionedIn}
use Rattle.settings.specs.declared.Request.{Request}

ceiling_most : (k : ℕ) → ceiling_of k ≤ 329492
unfolding ceiling_of
ceiling_most k =
    by_cond (λ (n : ℕ). n ≤ 329492) (eqb k 1) (λ _. omega arith)
    (λ _. by_cond (λ (n : ℕ). n ≤ 329492) (eqb k 2) (λ _. omega arith) (λ _. omega arith))

options_in : (k : ℕ) (r : Request) (names : List ℕ) → thr_good k r.thr ≡ true → degm_good r.degm ≡ true → leb r.mode 3 ≡ true
    → length names ≡ 32 → OptionsIn (options_of r names)
unfolding thr_good degm_good
options_in k r names t d m e =
    let low : r.thr ≤ ceiling_of k = leb-true _ _ (and_right (leb 1 r.thr) (leb r.thr (ceiling_of k)) t) in
    let high : ceiling_of k ≤ 329492 = ceiling_most k in
    record {
      thr_least = leb-true _ _ (and_left (leb 1 r.thr) (leb r.thr (ceiling_of k)) t);
      thr = omega arith;
      degm_least = leb-true _ _ (and_left (leb 2 r.degm) (leb r.degm 10) d);
      degm = leb-true _ _ (and_right (leb 2 r.degm) (leb r.degm 10) d);
      mode = leb-true _ _ m;
      names = e;
    }

-- an accepted provisioning
pub provisioned_in : ProvisionedIn
unfolding settings_refusal
provisioned_in k section path snames pnames e =
    let p = passed 10 (settings_checks k section path snames pnames) refl e in
    let five = p.0 in
    let six = p.1.0 in
    let seven = p.1.1.0 in
    let eight = p.1.1.1.0 in
    let ten = p.1.1.1.1.1.0 in
    record {
      k_least = leb-true _ _ (and_left (leb 1 k) (leb k 3) five);
      k = leb-true _ _ (and_right (leb 1 k) (leb k 3) five);
      section =
          options_in k section snames (and_left (thr_good k section.thr) (thr_good k path.thr) six)
          (and_left (degm_good section.degm) (degm_good path.degm) seven) (and_left (leb section.mode 3) (leb path.mode 3) eight)
          (eqb-true _ _ (and_left (eqb (length snames) 32) (eqb (length pnames) 32) ten));
      path =
          options_in k path pnames (and_right (thr_good k section.thr) (thr_good k path.thr) six)
          (and_right (degm_good section.degm) (degm_good path.degm) seven) (and_right (leb section.mode 3) (leb path.mode 3) eight)
          (eqb-true _ _ (and_right (eqb (length snames) 32) (eqb (length pnames) 32) ten));
    }
