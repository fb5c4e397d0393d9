-- The actions and causes of a level, by one computed test over all that can stand. Assumes nothing.
use mathlib.Core.Path.{refl}
use mathlib.Core.Bool.{Bool, true, false, not, ◌&&◌, ◌||◌, beq}
use mathlib.Core.List.{List, [], ◌∷◌}
use Prim.Native.Nat.{ℕ}
use lib.Dec.{T, leb, leb→le}
use lib.ListN.{get_or}
use Rattle.answer.proofs.Every.{beq_eq, every, at_each, together, part}
use Rattle.causes.specs.Causes.{tim_acts}
use Rattle.level.specs.Status.{status_of}
use Rattle.level.specs.Level.{dAIS, dLTC, dOCI, dLCK, level_down, level_actions, level_causes}
use Rattle.level.specs.Clause.{EachCode, faults, LevelClause}
use Rattle.level.specs.declared.Status.{Status}
use Rattle.level.specs.declared.Status.TheVariants.{Clear, Ltc, Iae, Lck, Oci, Ais}
use Rattle.level.specs.declared.LevelStands.{LevelStands}

pub each_code : EachCode
unfolding status_of
each_code = refl

-- the equations that do not stand as they are in the definitions, as a list of tests
abbrev tests : LevelStands → List Bool
tests d =
    beq (level_actions d).tsf (d.ssf || (dAIS d || dLTC d || dOCI d || dLCK d || (d.tim && not d.disabled)))
    ∷ beq (level_causes d).tim (d.tim && not d.ssf && not (dAIS d) && not (dLTC d) && not (dOCI d) && not (dLCK d))
    ∷ beq (level_causes d).deg
    (d.deg && not d.ssf && not (dAIS d) && not (dLTC d) && not (dOCI d) && not (dLCK d) && not (d.tim && not d.disabled))
    ∷ beq (level_causes d).bdi
    (d.bdi && not d.ssf && not (dAIS d) && not (dLTC d) && not (dOCI d) && not (dLCK d) && not (d.tim && not d.disabled))
    ∷ leb (faults (level_causes d)) 1
    ∷ beq (level_actions d).tsf
    ((level_causes d).ssf || (level_causes d).ltc || (level_causes d).oci || (level_causes d).lck || ((level_causes d).tim && tim_acts d.tim d.disabled))
    ∷ beq (level_down d) ((level_causes d).ssf || (level_causes d).ltc || (level_causes d).oci || (level_causes d).lck)
    ∷ []

-- d with the status and the five Bools that the equations read put in
abbrev put : LevelStands → Status → List Bool → LevelStands
put d g l = record {
  ssf = get_or l 0 false;
  status = g;
  tim = get_or l 1 false;
  disabled = get_or l 2 false;
  bdi = get_or l 3 false;
  iae = d.iae;
  biae = d.biae;
  deg = get_or l 4 false;
}

passes : (d : LevelStands) (g : Status) → T (every 5 (λ l. together (tests (put d g l))))
unfolding tim_acts
passes d Clear = tt
passes d Ltc = tt
passes d Iae = tt
passes d Lck = tt
passes d Oci = tt
passes d Ais = tt

tested : (d : LevelStands) → T (together (tests d))
tested d = at_each (λ l. together (tests (put d d.status l))) (d.ssf ∷ d.tim ∷ d.disabled ∷ d.bdi ∷ d.deg ∷ []) (passes d d.status)

pub clause : (d : LevelStands) → LevelClause d
clause d =
    let p : (i : ℕ) → T (get_or (tests d) i true) = λ i. part (tests d) i (tested d) in
    record {
      tsf = beq_eq _ _ (p 0);
      tsd = refl;
      ssf = refl;
      ltc = refl;
      oci = refl;
      lck = refl;
      tim = beq_eq _ _ (p 1);
      deg = beq_eq _ _ (p 2);
      bdi = beq_eq _ _ (p 3);
      alone = leb→le (faults (level_causes d)) 1 (p 4);
      failed = beq_eq _ _ (p 5);
      stopped = λ bei violations. beq_eq _ _ (p 6);
    }
