-- The BEI reading over all codes: the case of each, and that a far block and the mark are what they were. Assumes nothing.
use Prim.Native.Nat.{ℕ, ◌≤◌, ◌*◌}
use mathlib.Core.Path.{◌≡◌, refl}
use mathlib.Core.Bool.{Bool, true, false, cond}
use native.Mathlib.Omega.{arith}
use lib.Dec.{leb, eqb}
use borrow.Author.Tests.{leb-true, eqb-true}
use Rattle.answer.specs.Bits.{flag}
use Rattle.overhead.specs.Overhead.{far_block}
use Rattle.overhead.specs.Bei.{path_bei, bei_of, is_far, violations_of, is_biae, BeiCodes, EverySameFar}
use Rattle.overhead.specs.declared.Bei.TheVariants.{None, Number}

pub bei_codes : BeiCodes
unfolding far_block path_bei bei_of
bei_codes = record { read = refl; path = refl; coded = refl; path_coded = refl }

-- what is said of the path's reading
path_said : (b : Bool) (code : ℕ) → (is_far (cond b (Number code) None) ≡ b) × ((is_biae (cond b (Number code) None) ≡ false) × (violations_of (cond b (Number code) None) ≡ cond b code 0))
path_said true code = (refl, (refl, refl))
path_said false code = (refl, (refl, refl))

-- a far block's code is 1 to 8
between : (code : ℕ) (a b : Bool) → leb 1 code ≡ a → leb code 8 ≡ b
    → (flag (far_block code) ≤ cond (far_block code) code 0) × (cond (far_block code) code 0 ≤ 8 * flag (far_block code))
unfolding far_block
between code true true p q = rw (p, q) (leb-true 1 code p, leb-true code 8 q)
between code true false p q = rw (p, q) (omega arith)
between code false b p q = rw p (omega arith)

-- the section's and a level's reading is the path's but for the mark
by_code : (code : ℕ) (e : Bool) → eqb code 11 ≡ e
    → (is_far (bei_of code) ≡ far_block code) × ((is_biae (bei_of code) ≡ eqb code 11) × (violations_of (bei_of code) ≡ cond (far_block code) code 0))
unfolding path_bei bei_of far_block
by_code code true p = rw (eqb-true code 11 p) (refl, (refl, refl))
by_code code false p = let s = path_said (far_block code) code in rw p (s.0, (s.1.0, s.1.1))

pub same_far : EverySameFar
unfolding path_bei
same_far code =
    let a = by_code code (eqb code 11) refl in
    let b = path_said (far_block code) code in
    let c = between code (leb 1 code) (leb code 8) refl refl in
    record { far = a.0; path_far_is = b.0; mark = a.1.0; path_mark = b.1.0; number = a.1.1; path_number = b.1.1; least = c.0; most = c.1 }
