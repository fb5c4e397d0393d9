-- Refusals: a call's tests in the order of their numbers (document 01, "Refusal numbers"). Assumes nothing.
use Rattle.std.specs.Prelude.{ℕ, Bool, cond, List, [], ◌∷◌}

-- a refusal's number, and the test that an accepted call passes
pub record Check : Type 0 where
  pub number : ℕ
  pub passes : Bool

abbrev pub check : ℕ → Bool → Check
check n t = record { number = n; passes = t }

-- "Checked in number order": the number of the first test that fails, 0 where none does
abbrev pub first_of : List Check → ℕ
first_of [] = 0
first_of (c ∷ cs) = cond c.passes (first_of cs) c.number
