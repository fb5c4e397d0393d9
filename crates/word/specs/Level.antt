-- What is told of a tandem level as one number: its fields side by side, the first lowest. Assumes nothing.
use Rattle.std.specs.Prelude.{Bool, List, [], ◌∷◌, ◌++◌, ℕ}
use Rattle.level.specs.Level.{dAIS, dLTC, dOCI, dLCK}
use Rattle.level.specs.declared.LevelStands.{LevelStands}
use Rattle.level.specs.declared.LevelActions.{LevelActions}
use Rattle.level.specs.declared.LevelCauses.{LevelCauses}
use Rattle.word.specs.Report.{Field, number, one, packed}

-- whether a level is provisioned, what stands of it, what it acts and what it gives as causes
pub record Told : Type 0 where
  pub given : Bool
  pub stands : LevelStands
  pub actions : LevelActions
  pub causes : LevelCauses

abbrev pub told : Bool → LevelStands → LevelActions → LevelCauses → Told
told given d a c = record { given = given; stands = d; actions = a; causes = c }

-- bits 9 to 18: SSF, dLTC, dAIS, dOCI, dLCK, dTIM, dBDI, dIAE, dBIAE, dDEG
abbrev pub level_fields : LevelStands → List Field
level_fields d =
    one d.ssf ∷ one (dLTC d) ∷ one (dAIS d) ∷ one (dOCI d) ∷ one (dLCK d)
    ∷ one d.tim ∷ one d.bdi ∷ one d.iae ∷ one d.biae ∷ one d.deg ∷ []

-- bits 19 and 20: aTSF, aTSD
abbrev pub level_acted : LevelActions → List Field
level_acted a = one a.tsf ∷ one a.tsd ∷ []

-- bits 21 to 27: cSSF, cLTC, cOCI, cLCK, cTIM, cDEG, cBDI
abbrev pub level_caused : LevelCauses → List Field
level_caused c = one c.ssf ∷ one c.ltc ∷ one c.oci ∷ one c.lck ∷ one c.tim ∷ one c.deg ∷ one c.bdi ∷ []

-- bits 0 to 7 are the refusal, 0 where a level is told; 8 whether it is provisioned; then the rest in its order
abbrev pub told_fields : Told → List Field
told_fields t = number 8 0 ∷ one t.given ∷ (level_fields t.stands ++ (level_acted t.actions ++ level_caused t.causes))

unfoldable pub level_word : Bool → LevelStands → LevelActions → LevelCauses → ℕ
level_word given d a c = packed (told_fields (told given d a c))
