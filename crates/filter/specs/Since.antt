-- What a filter of n and n is, said without its counter: on if and only if n bits 1 in a row have been seen since it was last forgotten, and
-- no n bits 0 in a row since. A list of bits has the latest first. Assumes nothing.
use Rattle.std.specs.Prelude.{◌≡◌, ◌↔◌, Bool, true, false, cond, ◌&&◌, List, [], ◌∷◌, ◌++◌, ℕ, zero, suc, replicate}
use Rattle.std.specs.Bool.{beq}
use Rattle.filter.specs.declared.Filter.{Filter}
use Rattle.filter.specs.Filter.{quiet, filter_of}

-- no n in a row are x
abbrev pub NoRun : {A : Type 0} → ℕ → A → List A → Type 0
NoRun n x l = (late early : List _) → l ≡ late ++ (replicate n x ++ early) → ⊥

-- n bits 1 in a row, and no n bits 0 in a row since
pub record On (n : ℕ) (l : List Bool) : Type 0 where
  pub since : List Bool
  pub before : List Bool
  pub is : l ≡ since ++ (replicate n true ++ before)
  pub none : NoRun n false since

-- what a filter is given in a frame: to forget, or a bit
pub record Given : Type 0 where
  pub forget : Bool
  pub bit : Bool

-- the filter after a list of them, the latest first
unfoldable pub filter_after : ℕ → List Given → Filter
filter_after n [] = quiet
filter_after n (g ∷ gs) = filter_of (filter_after n gs) n g.forget g.bit

-- the bits since the last frame that forgot
unfoldable pub bits_since : List Given → List Bool
bits_since [] = []
bits_since (g ∷ gs) = cond g.forget [] (g.bit ∷ bits_since gs)

-- the latest n are all x
unfoldable pub row : ℕ → Bool → List Bool → Bool
row zero x l = true
row (suc n) x [] = false
row (suc n) x (y ∷ l) = beq y x && row n x l

-- `On` as a value: the latest n bits decide where they are alike; otherwise it is what it was a bit earlier
unfoldable pub on_by : ℕ → List Bool → Bool
on_by n [] = false
on_by n (x ∷ l) = cond (row n true (x ∷ l)) true (cond (row n false (x ∷ l)) false (on_by n l))

-- the law: after any frames the filter of n is on exactly where `On` says, and where `on_by` says
pub record FilterIs (n : ℕ) (gs : List Given) : Type 0 where
  pub on : ((filter_after n gs).on ≡ true) ↔ On n (bits_since gs)
  pub value : (filter_after n gs).on ≡ on_by n (bits_since gs)
