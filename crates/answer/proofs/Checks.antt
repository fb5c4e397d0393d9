-- The laws of a list of tests. Assumes nothing.
use mathlib.Core.Path.{◌≡◌, refl}
use mathlib.Core.Bool.{Bool, true, false, cond, ◌&&◌}
use mathlib.Core.List.{List, [], ◌∷◌}
use Prim.Native.Nat.{ℕ, ◌≤◌, ◌<◌, zero-le}
use native.Mathlib.Omega.{arith}
use lib.Dec.{leb, ltb}
use borrow.Author.Tests.{leb-true, ltb-true}
use Rattle.answer.specs.Checks.{Check, first_of}
use Rattle.answer.proofs.Cond.{by_cond, and_left, and_right}

-- each test passes
abbrev pub All : List Check → Type 0
All [] = Unit {0}
All (c ∷ cs) = (c.passes ≡ true) × All cs

-- each number lies between 1 and n
abbrev pub within : ℕ → List Check → Bool
within n [] = true
within n (c ∷ cs) = (ltb 0 c.number && leb c.number n) && within n cs

split : (t : Bool) (a n : ℕ) → 0 < n → cond t a n ≡ 0 → (t ≡ true) × (a ≡ 0)
split true a n h e = (refl, e)
split false a n h e = absurd (omega arith)

-- where nothing is refused, each test passes
pub passed : (n : ℕ) (cs : List Check) → within n cs ≡ true → first_of cs ≡ 0 → All cs
passed n [] w e = tt
passed n (c ∷ cs) w e =
    let one = and_left (ltb 0 c.number && leb c.number n) (within n cs) w in
    let p = split c.passes (first_of cs) c.number (ltb-true _ _ (and_left (ltb 0 c.number) (leb c.number n) one)) e in
    (p.0, passed n cs (and_right (ltb 0 c.number && leb c.number n) (within n cs) w) p.1)

-- the number answered is at most the largest of the tests' numbers
pub first_low : (n : ℕ) (cs : List Check) → within n cs ≡ true → first_of cs ≤ n
first_low n [] w = zero-le
first_low n (c ∷ cs) w =
    let one = and_left (ltb 0 c.number && leb c.number n) (within n cs) w in
    by_cond (λ (m : ℕ). m ≤ n) c.passes
    (λ _. first_low n cs (and_right (ltb 0 c.number && leb c.number n) (within n cs) w))
    (λ _. leb-true _ _ (and_right (ltb 0 c.number) (leb c.number n) one))
