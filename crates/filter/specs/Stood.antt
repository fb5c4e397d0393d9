-- The accepted value, said without a counter: the value that last stood three frames in a row since it was forgotten. A list of frames has
-- the latest first. Assumes nothing.
use Rattle.std.specs.Prelude.{◌≡◌, Bool, cond, ◌&&◌, List, [], ◌∷◌, ℕ, eqb}
use Rattle.filter.specs.declared.Stat.{Stat}
use Rattle.filter.specs.Stat.{no_stat, stat_of}

pub data AcceptedValue : Type 0 where
  none : AcceptedValue
  value : ℕ → AcceptedValue

-- the latest three, if they are alike; otherwise what stood a frame earlier
abbrev pub last_three : List ℕ → AcceptedValue
last_three [] = none
last_three (a ∷ []) = none
last_three (a ∷ (b ∷ [])) = none
last_three (a ∷ (b ∷ (c ∷ l))) = cond (eqb a b && eqb b c) (value a) (last_three (b ∷ (c ∷ l)))

-- what a frame gives: to forget, or a value
pub record Told : Type 0 where
  pub forget : Bool
  pub value : ℕ

-- the values since the last frame that forgot
unfoldable pub values_since : List Told → List ℕ
values_since [] = []
values_since (x ∷ l) = cond x.forget [] (x.value ∷ values_since l)

-- the state of the definitions after the frames
unfoldable pub stat_after : List Told → Stat
stat_after [] = no_stat
stat_after (x ∷ l) = stat_of (stat_after l) x.forget x.value

abbrev pub value_in : Stat → AcceptedValue
value_in s = cond s.known (value s.accepted) none

-- the law
abbrev pub StatIs : List Told → Type 0
StatIs l = value_in (stat_after l) ≡ last_three (values_since l)
