-- The BEI reading (document 02, K7): "The BEI reading shall answer none, a number 1 to 8, or the BIAE mark, where it now says yes or no. Section and path callers
-- follow, and every tandem level, save that in the path 1011 is none." Assumes nothing.
use Rattle.std.specs.Prelude.{ℕ, ◌≤◌, ◌*◌, ◌≡◌, Bool, true, false, cond, List, [], ◌∷◌, map, eqb, replicate}
use Rattle.answer.specs.Among.{among}
use Rattle.answer.specs.Bits.{flag}
use Rattle.overhead.specs.Overhead.{far_block}
use Rattle.overhead.specs.declared.Bei.{Bei}
use Rattle.overhead.specs.declared.Bei.TheVariants.{None, Number, Biae}

-- The codes of each case. "BEI 1 to 8 is one far-end errored block. 0 and 9 to 15 are none." "BEI = 1011" is the mark (document 01; 13.2.1.2, 6.2.6.11.1).
abbrev pub codes_of : Bei → List ℕ
codes_of (Number n) = n ∷ []
codes_of Biae = 11 ∷ []
codes_of None = 0 ∷ 9 ∷ 10 ∷ 12 ∷ 13 ∷ 14 ∷ 15 ∷ []

-- "save that in the path 1011 is none" (14.2.1.2)
abbrev pub path_codes : Bei → List ℕ
path_codes (Number n) = n ∷ []
path_codes Biae = []
path_codes None = 0 ∷ 9 ∷ 10 ∷ 11 ∷ 12 ∷ 13 ∷ 14 ∷ 15 ∷ []

-- the reading of the path
unfoldable pub path_bei : ℕ → Bei
path_bei code = cond (far_block code) (Number code) None

-- the reading of the section and of a tandem level
unfoldable pub bei_of : ℕ → Bei
bei_of code = cond (among code (codes_of Biae)) Biae (path_bei code)

-- one far-end errored block
abbrev pub is_far : Bei → Bool
is_far None = false
is_far (Number n) = true
is_far Biae = false

-- "the sum of BEI violations": what it adds, where the far block is counted
abbrev pub violations_of : Bei → ℕ
violations_of None = 0
violations_of (Number n) = n
violations_of Biae = 0

-- the mark that dBIAE's filter takes
abbrev pub is_biae : Bei → Bool
is_biae None = false
is_biae (Number n) = false
is_biae Biae = true

-- The sixteen values of four bits, and what each is read as in the section and in a level, and in the path: each is among the codes of its case.
abbrev pub sixteen : List ℕ
sixteen = 0 ∷ 1 ∷ 2 ∷ 3 ∷ 4 ∷ 5 ∷ 6 ∷ 7 ∷ 8 ∷ 9 ∷ 10 ∷ 11 ∷ 12 ∷ 13 ∷ 14 ∷ 15 ∷ []

pub record BeiCodes : Type 0 where
  pub read : map bei_of sixteen
      ≡ None ∷ Number 1 ∷ Number 2 ∷ Number 3 ∷ Number 4 ∷ Number 5 ∷ Number 6 ∷ Number 7 ∷ Number 8 ∷ None ∷ None ∷ Biae ∷ None ∷ None ∷ None ∷ None ∷ []
  pub path : map path_bei sixteen
      ≡ None ∷ Number 1 ∷ Number 2 ∷ Number 3 ∷ Number 4 ∷ Number 5 ∷ Number 6 ∷ Number 7 ∷ Number 8 ∷ None ∷ None ∷ None ∷ None ∷ None ∷ None ∷ None ∷ []
  pub coded : map (λ v. among v (codes_of (bei_of v))) sixteen ≡ replicate 16 true
  pub path_coded : map (λ v. among v (path_codes (path_bei v))) sixteen ≡ replicate 16 true

-- The reading says of a far block and of the mark what was said before it answered a number, and its number is the code of a far block, 1 to 8.
pub record SameFar (code : ℕ) : Type 0 where
  pub far : is_far (bei_of code) ≡ far_block code
  pub path_far_is : is_far (path_bei code) ≡ far_block code
  pub mark : is_biae (bei_of code) ≡ eqb code 11
  pub path_mark : is_biae (path_bei code) ≡ false
  pub number : violations_of (bei_of code) ≡ cond (far_block code) code 0
  pub path_number : violations_of (path_bei code) ≡ cond (far_block code) code 0
  pub least : flag (far_block code) ≤ cond (far_block code) code 0
  pub most : cond (far_block code) code 0 ≤ 8 * flag (far_block code)

abbrev pub EverySameFar : Type 0
EverySameFar = (code : ℕ) → SameFar code
