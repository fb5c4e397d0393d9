-- What clause 14.5.1.1.3 of G.798 says of a tandem level, for whatever stands and whatever was kept. Assumes nothing.
use Rattle.std.specs.Prelude.{◌≡◌, Bool, true, false, not, ◌&&◌, ◌||◌, List, [], ◌∷◌, map, ℕ, ◌+◌, ◌≤◌, replicate}
use Rattle.answer.specs.Among.{among}
use Rattle.answer.specs.Bits.{flag}
use Rattle.overhead.specs.declared.Field.{Field}
use Rattle.alignment.specs.declared.Multi.{Multi}
use Rattle.settings.specs.declared.Options.{Options}
use Rattle.causes.specs.Causes.{tim_acts}
use Rattle.level.specs.Status.{level_codes, status_of}
use Rattle.level.specs.Level.{level_frame, dAIS, dLTC, dOCI, dLCK, level_actions, level_causes, level_shows}
use Rattle.level.specs.declared.LevelState.{LevelState}
use Rattle.level.specs.declared.LevelStands.{LevelStands}
use Rattle.level.specs.declared.LevelCauses.{LevelCauses}

-- "Eight three-bit codes are possible" (document 01): each is among those of the case that it is read as
abbrev pub EachCode : Type 0
EachCode = map (λ v. among v (level_codes (status_of v))) (0 ∷ 1 ∷ 2 ∷ 3 ∷ 4 ∷ 5 ∷ 6 ∷ 7 ∷ []) ≡ replicate 8 true

-- how many of cSSF, cLTC, cOCI, cLCK and cTIM stand
abbrev pub faults : LevelCauses → ℕ
faults c = flag c.ssf + flag c.ltc + flag c.oci + flag c.lck + flag c.tim

-- The consequent actions and the fault causes, written out as the clause has them.
pub record LevelClause (d : LevelStands) : Type 0 where
  pub tsf : (level_actions d).tsf ≡ (d.ssf || (dAIS d || dLTC d || dOCI d || dLCK d || (d.tim && not d.disabled)))
  pub tsd : (level_actions d).tsd ≡ d.deg
  pub ssf : (level_causes d).ssf ≡ (d.ssf || dAIS d)
  pub ltc : (level_causes d).ltc ≡ (dLTC d && not d.ssf)
  pub oci : (level_causes d).oci ≡ (dOCI d && not d.ssf)
  pub lck : (level_causes d).lck ≡ (dLCK d && not d.ssf)
  pub tim : (level_causes d).tim ≡ (d.tim && not d.ssf && not (dAIS d) && not (dLTC d) && not (dOCI d) && not (dLCK d))
  pub deg : (level_causes d).deg
      ≡ (d.deg && not d.ssf && not (dAIS d) && not (dLTC d) && not (dOCI d) && not (dLCK d) && not (d.tim && not d.disabled))
  pub bdi : (level_causes d).bdi
      ≡ (d.bdi && not d.ssf && not (dAIS d) && not (dLTC d) && not (dOCI d) && not (dLCK d) && not (d.tim && not d.disabled))
  -- one fault is reported once: of cSSF, cLTC, cOCI, cLCK and cTIM at most one stands, also where SSF stands beside a defect
  pub alone : faults (level_causes d) ≤ 1
  -- aTSF stands where one of them does, cTIM only where TIM acts
  pub failed : (level_actions d).tsf
      ≡ ((level_causes d).ssf || (level_causes d).ltc || (level_causes d).oci || (level_causes d).lck || ((level_causes d).tim && tim_acts d.tim d.disabled))
  -- blocks are not counted where one of the first four does: dTIM, dIAE and dBIAE stop nothing
  pub stopped : (bei violations : ℕ) → (level_shows d bei violations).stopped
      ≡ ((level_causes d).ssf || (level_causes d).ltc || (level_causes d).oci || (level_causes d).lck)

abbrev pub AllFalse : List Bool → Type 0
AllFalse [] = Unit {0}
AllFalse (b ∷ bs) = (b ≡ false) × AllFalse bs

-- Which defects are false during which: dIAE and dBIAE during dTIM; these and dLTC, dOCI, dLCK, dTIM and dBDI during dAIS and during CI_SSF; in SSF no
-- STAT is accepted, and so dAIS is false as well.
abbrev pub false_in_tim : LevelStands → List Bool
false_in_tim d = d.iae ∷ d.biae ∷ []

abbrev pub false_in_ais : LevelStands → List Bool
false_in_ais d = dLTC d ∷ dOCI d ∷ dLCK d ∷ d.tim ∷ d.bdi ∷ false_in_tim d

abbrev pub false_in_ssf : LevelStands → List Bool
false_in_ssf d = dAIS d ∷ false_in_ais d

pub record FalseDuring (d : LevelStands) : Type 0 where
  pub in_ssf_is : d.ssf ≡ true → AllFalse (false_in_ssf d)
  pub in_ais : dAIS d ≡ true → AllFalse (false_in_ais d)
  pub in_tim : d.tim ≡ true → AllFalse (false_in_tim d)

-- after every frame, whatever was kept, provisioned and received
abbrev pub EachFrame : Type 0
EachFrame = (s : LevelState) (p : Options) (ssf : Bool) (m : Multi) (f : Field) → FalseDuring (level_frame s p ssf m f).stands
