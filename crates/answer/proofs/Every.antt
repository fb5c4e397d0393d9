-- One law for any number of Bools: a test that computes at all of their values holds at each. And a list of tests, passed together.
-- Assumes nothing.
use mathlib.Core.Path.{◌≡◌, refl}
use mathlib.Core.Bool.{Bool, true, false, ◌&&◌, beq}
use mathlib.Core.List.{List, [], ◌∷◌}
use Prim.Native.Nat.{ℕ, zero, suc}
use lib.Dec.{T}
use lib.ListN.{length, get_or}

pub both_left : (a b : Bool) → T (a && b) → T a
both_left true b t = tt
both_left false b t = t

pub both_right : (a b : Bool) → T (a && b) → T b
both_right true b t = t
both_right false b t = absurd t

pub beq_eq : (a b : Bool) → T (beq a b) → a ≡ b
beq_eq true true t = refl
beq_eq true false t = absurd t
beq_eq false true t = absurd t
beq_eq false false t = refl

-- the test passes at every list of n Bools
abbrev pub every : ℕ → (List Bool → Bool) → Bool
every zero f = f []
every (suc n) f = every n (λ l. f (false ∷ l)) && every n (λ l. f (true ∷ l))

pub at_each : (f : List Bool → Bool) (l : List Bool) → T (every (length l) f) → T (f l)
at_each f [] t = t
at_each f (false ∷ l) t = at_each (λ m. f (false ∷ m)) l (both_left (every (length l) (λ m. f (false ∷ m))) (every (length l) (λ m. f (true ∷ m))) t)
at_each f (true ∷ l) t = at_each (λ m. f (true ∷ m)) l (both_right (every (length l) (λ m. f (false ∷ m))) (every (length l) (λ m. f (true ∷ m))) t)

-- all tests of a list pass, and so the i-th
abbrev pub together : List Bool → Bool
together [] = true
together (b ∷ bs) = b && together bs

pub part : (bs : List Bool) (i : ℕ) → T (together bs) → T (get_or bs i true)
part [] i t = tt
part (b ∷ bs) zero t = both_left b (together bs) t
part (b ∷ bs) (suc i) t = part bs i (both_right b (together bs) t)
