-- A joining by its ways out. Assumes nothing.
use Prim.Native.Nat.{◌<◌}
use mathlib.Core.Path.{◌≡◌, refl}
use native.Mathlib.Omega.{arith}
use Rattle.std.specs.Prelude.{Result, Ok, Err, IfOk, eqb}
use Rattle.std.specs.Result.{result_unwrap_or}
use Rattle.answer.specs.declared.Refusal.{Refusal}
use Rattle.answer.specs.Refusal.{number_of, said}
use Rattle.answer.proofs.Cond.{by_cond}
use Rattle.answer.proofs.Numbers.{number_above}
use mathlib.Core.Bool.{Bool, true, false, ◌&&◌, true≢false}
use borrow.Author.Tests.{ne_eqb}
use Rattle.summary.specs.Summary.{valid_of, empty_summary, added_of, place_refusal, join_refusal, refused_with, Joined, join_of}
use Rattle.summary.specs.declared.Summary.{Summary}

module _ (a b : Summary) where
  good_refusal : valid_of a ≡ true → valid_of b ≡ true → join_refusal a b ≡ place_refusal a b
  unfolding join_refusal place_refusal
  good_refusal x y = rw (x, y)

  pub joins : valid_of a ≡ true → valid_of b ≡ true → place_refusal a b ≡ 0 → join_of a b ≡ record { refusal = 0; summary = added_of a b }
  unfolding join_of
  joins x y e = rw (good_refusal x y, e)

  pub misplaced : valid_of a ≡ true → valid_of b ≡ true → (place_refusal a b ≡ 0 → ⊥) → join_of a b ≡ refused_with (place_refusal a b)
  unfolding join_of
  misplaced x y e = rw (good_refusal x y, ne_eqb _ _ e)

  by : (x y : Bool) → valid_of a ≡ x → valid_of b ≡ y → (x && y) ≡ false → join_refusal a b ≡ 26
  unfolding join_refusal
  by false y p q e = rw p
  by true false p q e = rw (p, q)
  by true true p q e = absurd (true≢false e)

  pub not_both : (valid_of a && valid_of b) ≡ false → join_of a b ≡ refused_with 26
  unfolding join_of
  not_both e = rw (by (valid_of a) (valid_of b) refl refl e)

-- what `unwrap_or` makes of the answer of a joining: where it is refused, the empty summary is handed over
pub or_empty : (a b : Summary) (r : Result Summary Refusal) → said r ≡ (join_of a b).refusal → IfOk r (λ s. s ≡ (join_of a b).summary)
    → result_unwrap_or r empty_summary ≡ (join_of a b).summary
unfolding join_of
or_empty a b (Ok s) p q = q
or_empty a b (Err e) p q =
    by_cond (λ (j : Joined). number_of e ≡ j.refusal → empty_summary ≡ j.summary) (eqb (join_refusal a b) 0)
    (λ t h. let n : 0 < number_of e = number_above e in absurd (omega (arith, h)))
    (λ t h. refl) p
