-- The numbers of a layer's state in their bytes, and what becomes of them: a filter, a STAT, the flags, counts and sum of the second. Bytes of
-- another length than the number's are as they stood. Assumes nothing.
use Rattle.std.specs.Prelude.{◌≡◌, Bool, cond, List, [], ◌∷◌, ℕ, ◌+◌, eqb, length, get_or}
use Rattle.std.specs.Int.Bits.{bit_or}
use Rattle.answer.specs.Bits.{flag}
use Rattle.words.specs.Words.{counted_in, added_in}
use Rattle.filter.specs.Filter.{quiet, filter_of}
use Rattle.filter.specs.declared.Filter.{Filter}
use Rattle.filter.specs.declared.Stat.{Stat}
use Rattle.numbers.specs.Numbers.{on, low}

-- where there are n bytes, and where there are not
abbrev pub sized : {A : Type 0} → ℕ → List ℕ → A → A → A
sized n w x y = cond (eqb (length w) n) x y

abbrev pub filter_at : List ℕ → ℕ → Filter
filter_at w at = record { on = on (get_or w at 0); run = get_or w (at + 1) 0 }

abbrev pub filter_bytes : Filter → List ℕ
filter_bytes f = flag f.on ∷ low f.run ∷ []

-- a filter stepped in its two bytes; other bytes hold none
pub record FilterStep (w : List ℕ) (n : ℕ) (forget bit : Bool) (r : Filter) (after : List ℕ) : Type 0 where
  pub answers : r ≡ sized 2 w (filter_of (filter_at w 0) n forget bit) quiet
  pub holds : after ≡ sized 2 w (filter_bytes (filter_of (filter_at w 0) n forget bit)) w

abbrev pub stat_at : List ℕ → ℕ → Stat
stat_at w at = record { value = get_or w at 0; run = get_or w (at + 1) 0; known = on (get_or w (at + 2) 0); accepted = get_or w (at + 3) 0 }

abbrev pub stat_bytes : Stat → List ℕ
stat_bytes s = s.value ∷ low s.run ∷ flag s.known ∷ s.accepted ∷ []

abbrev pub stat_laid : List ℕ → Stat → List ℕ
stat_laid w s = sized 4 w (stat_bytes s) w

-- four flags of the second (near and far DS, whether dIAE and dBIAE stood): once raised they stay
abbrev pub raised : Bool → ℕ → ℕ
raised more x = bit_or x (flag more)

abbrev pub flags_in : Bool → Bool → Bool → Bool → List ℕ → List ℕ
flags_in near far iae biae w = raised near (get_or w 0 0) ∷ raised far (get_or w 1 0) ∷ raised iae (get_or w 2 0) ∷ raised biae (get_or w 3 0) ∷ []

abbrev pub flags_laid : Bool → Bool → Bool → Bool → List ℕ → List ℕ
flags_laid near far iae biae w = sized 4 w (flags_in near far iae biae w) w

-- two counts and a sum of the second (near and far blocks, far-end violations): the sum stands first
abbrev pub counted_by : Bool → ℕ → List ℕ → List ℕ
counted_by more i w = cond more (counted_in w i 400000) w

abbrev pub counts_in : Bool → Bool → ℕ → List ℕ → List ℕ
counts_in near far more w = counted_by far 2 (counted_by near 1 (added_in w 0 more 3200000))
