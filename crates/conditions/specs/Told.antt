-- The conditions as the code lists them: a name, and whether it stands. Assumes nothing.
use Rattle.std.specs.Prelude.{ℕ, Bool, List, map}
use Rattle.std.specs.Borrow.{Bor}
use Rattle.conditions.specs.Conditions.{Named}

-- the definitions' list
abbrev pub told : List (Bor (List ℕ) × Bool) → List Named
told xs = map (λ x. record { name = x.0.now; stands = x.1 }) xs
