-- What holds of a `cond` by the two values of its test, and what the parts of a conjunction are. Assumes nothing.
use Prim.Native.Nat.{ℕ}
use mathlib.Core.Path.{◌≡◌, refl}
use mathlib.Core.Bool.{Bool, true, false, cond, ◌&&◌}
use native.Mathlib.Omega.{arith}

pub by_cond {ℓ κ} : {A : Type ℓ} (P : A → Type κ) (t : Bool) {x y : A} → (t ≡ true → P x) → (t ≡ false → P y) → P (cond t x y)
by_cond P true a b = a refl
by_cond P false a b = b refl

pub and_left : (a b : Bool) → (a && b) ≡ true → a ≡ true
and_left true b p = refl
and_left false b p = p

pub and_right : (a b : Bool) → (a && b) ≡ true → b ≡ true
and_right true b p = p
and_right false b p = cc

-- a function of a `cond` is the `cond` of the function
pub cond_under {ℓ κ} : {A : Type ℓ} {B : Type κ} (f : A → B) (t : Bool) (x y : A) → f (cond t x y) ≡ cond t (f x) (f y)
cond_under f true x y = refl
cond_under f false x y = refl

-- a test does not have both values
pub not_so : true ≡ false → ⊥
not_so e = let z : ◌≡◌ {A = ℕ} 0 1 = cc in omega arith

-- both tests, as a `cond` says it
pub and_cond : (a b : Bool) → (a && b) ≡ cond a b false
and_cond true b = refl
and_cond false b = refl
