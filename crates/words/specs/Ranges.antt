-- Ranges: a least and a greatest for each number of a list. Assumes nothing.
use Rattle.std.specs.Prelude.{Bool, true, false, ◌&&◌, List, [], ◌∷◌, ℕ, leb}

-- each number lies between its least and its greatest, and there are as many of each
unfoldable pub inside : List ℕ → List ℕ → List ℕ → Bool
inside [] [] [] = true
inside [] [] (w ∷ ws) = false
inside [] (hi ∷ his) ws = false
inside (lo ∷ los) [] ws = false
inside (lo ∷ los) (hi ∷ his) [] = false
inside (lo ∷ los) (hi ∷ his) (w ∷ ws) = leb lo w && (leb w hi && inside los his ws)
