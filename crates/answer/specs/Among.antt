-- Whether a number is one of a list. Assumes nothing.
use Rattle.std.specs.Prelude.{ℕ, Bool, false, ◌||◌, List, [], ◌∷◌, eqb}

abbrev pub among : ℕ → List ℕ → Bool
among v [] = false
among v (x ∷ xs) = eqb v x || among v xs
