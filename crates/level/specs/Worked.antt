-- Frames of one level, worked from fresh: what stands after each, and the second that they make. Assumes nothing.
use Rattle.std.specs.Prelude.{◌≡◌, Bool, true, false, not, List, [], ◌∷◌, ◌++◌, map, ℕ, zero, suc, ◌+◌, replicate}
use Rattle.overhead.specs.declared.Field.{Field}
use Rattle.alignment.specs.declared.Multi.{Multi}
use Rattle.settings.specs.declared.Options.{Options}
use Rattle.second.specs.declared.Blocks.{Blocks}
use Rattle.second.specs.Second.{no_blocks}
use Rattle.level.specs.Level.{level_of, level_stands, dLTC, level_actions, level_causes, level_count, level_closed, fresh_level, fresh_level_second}
use Rattle.level.specs.declared.LevelState.{LevelState}
use Rattle.level.specs.declared.LevelStands.{LevelStands}
use Rattle.level.specs.declared.LevelSecond.{LevelSecond}

-- what a level is given in a frame: SSF, the multiframe, its field; its violation count is 1
pub record Handed : Type 0 where
  pub ssf : Bool
  pub multi : Multi
  pub field : Field

-- what stands after each frame
abbrev pub stood_each : Options → LevelState → List Handed → List LevelStands
stood_each p s [] = []
stood_each p s (x ∷ l) =
    let n : LevelState = level_of s p x.ssf x.multi x.field in
    level_stands n p x.ssf ∷ stood_each p n l

-- the open second after all of them
abbrev pub count_each : Options → LevelState → LevelSecond → List Handed → LevelSecond
count_each p s c [] = c
count_each p s c (x ∷ l) =
    let n : LevelState = level_of s p x.ssf x.multi x.field in
    count_each p n (level_count c (level_stands n p x.ssf) x.field.bei 1) l

-- OOM, and IM with a local number
abbrev pub oom : Multi
oom = record { inmulti = false; number = 0; misses = 0; known = false; previous = 0 }

abbrev pub im : ℕ → Multi
im n = record { inmulti = true; number = n; misses = 0; known = false; previous = 0 }

-- a frame in OOM with a BEI, a BDI and a STAT; one with a STAT alone; one in SSF
abbrev pub handed : ℕ → Bool → ℕ → Handed
handed bei bdi stat = record { ssf = false; multi = oom; field = record { tti = 0; bei = bei; bdi = bdi; iae = false; stat = stat } }

abbrev pub plain : ℕ → Handed
plain stat = handed 0 false stat

abbrev pub in_ssf : Handed
in_ssf = record { ssf = true; multi = oom; field = (plain 0).field }

-- n frames of STAT 010 in IM with TTI bytes 0, their local numbers from m on
abbrev pub numbered : ℕ → ℕ → List Handed
numbered m zero = []
numbered m (suc n) = record { ssf = false; multi = im m; field = (plain 2).field } ∷ numbered (m + 1) n

-- settings in trace mode 0
abbrev pub unnamed : Options
unnamed = record { thr = 1; degm = 2; mode = 0; disabled = false; names = replicate 32 0 }

-- two frames in OOM, then three whole cycles; in trace mode 1 with a SAPI that is not zeros, and TIMActDis or not
abbrev pub cycled : Bool → List LevelStands
cycled disabled =
    stood_each (record { thr = 1; degm = 2; mode = 1; disabled = disabled; names = replicate 32 1 }) fresh_level (plain 2 ∷ plain 2 ∷ numbered 0 192)

-- 001 and 010, three times each, and 001 again
abbrev pub misaligned : List Handed
misaligned = replicate 3 (plain 1) ++ (replicate 3 (handed 1 false 2) ++ replicate 3 (plain 1))

-- five frames with BEI 8 and BDI, three with BEI 1011 and BDI
abbrev pub backward : List Handed
backward = replicate 5 (handed 8 true 1) ++ replicate 3 (handed 11 true 1)

-- the values of a second
abbrev pub values_are : ℕ → ℕ → Bool → Bool → ℕ → Blocks
values_are near far neards fards sum = record { near = record { 0 = near }; far = record { 0 = far }; neards = neards; fards = fards; sum = record { 0 = sum } }

-- what stands after each frame, and the second, in trace mode 0
abbrev pub from_fresh : List Handed → List LevelStands
from_fresh l = stood_each unnamed fresh_level l

abbrev pub whole_second : List Handed → LevelSecond
whole_second l = count_each unnamed fresh_level fresh_level_second l

pub record LevelWorked : Type 0 where
  -- 000 raises dLTC at the third frame, and the first two are counted
  pub ltc : map dLTC (from_fresh (replicate 5 (plain 0))) ≡ false ∷ false ∷ replicate 3 true
  pub ltc_second : level_closed (whole_second (replicate 5 (plain 0))) ≡ values_are 2 0 true false 0
  -- SSF in frames 6 and 7 forgets STAT: dLTC again from frame 10
  pub ltc_again : map dLTC (from_fresh (replicate 5 (plain 0) ++ (replicate 2 in_ssf ++ replicate 5 (plain 0))))
      ≡ replicate 2 false ++ (replicate 3 true ++ (replicate 4 false ++ replicate 3 true))
  -- dIAE in frames 6 to 8, and the second is discarded
  pub iae : map (λ (d : LevelStands). d.iae) (from_fresh misaligned) ≡ replicate 5 false ++ (replicate 3 true ++ (false ∷ []))
  pub iae_blocks : (whole_second misaligned).blocks ≡ values_are 9 3 false false 3
  pub iae_second : level_closed (whole_second misaligned) ≡ no_blocks
  -- dBIAE at the third 1011: the far values alone are discarded
  pub biae : map (λ (d : LevelStands). d.biae) (from_fresh backward) ≡ replicate 7 false ++ (true ∷ [])
  pub biae_blocks : (whole_second backward).blocks ≡ values_are 8 5 false true 40
  pub biae_second : level_closed (whole_second backward) ≡ values_are 8 0 false false 0
  -- dIAE from frame 3 to 193; dTIM in frame 194 masks it and gives cTIM, whether it acts or not; aTSF stands where it acts
  pub tim_iae : (disabled : Bool) → map (λ (d : LevelStands). d.iae) (cycled disabled) ≡ replicate 2 false ++ (replicate 191 true ++ (false ∷ []))
  pub tim_cause : (disabled : Bool) → map (λ (d : LevelStands). (level_causes d).tim) (cycled disabled) ≡ replicate 193 false ++ (true ∷ [])
  pub tim_tsf : (disabled : Bool) → map (λ (d : LevelStands). (level_actions d).tsf) (cycled disabled) ≡ replicate 193 false ++ (not disabled ∷ [])
