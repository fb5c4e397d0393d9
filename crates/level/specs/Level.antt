-- One tandem level, ODUkTm_TT_Sk (G.798 14.5.1.1.3; document 02, K1): a frame, what stands after it, actions, causes, its second and a mark. Of path
-- and of other levels it is handed nothing: SSF, the multiframe, its own three bytes and its own violation count. Assumes nothing.
use Rattle.std.specs.Prelude.{ℕ, Bool, false, not, ◌&&◌, ◌||◌, leb}
use Rattle.overhead.specs.declared.Field.{Field}
use Rattle.overhead.specs.Bei.{bei_of, is_biae}
use Rattle.filter.specs.declared.Stat.{Stat}
use Rattle.filter.specs.Filter.{quiet, filter_of}
use Rattle.filter.specs.Stat.{no_stat, stat_of}
use Rattle.alignment.specs.declared.Multi.{Multi}
use Rattle.layer.specs.declared.Layer.{Layer}
use Rattle.layer.specs.Layer.{layer_of, tim_of, fresh_layer}
use Rattle.settings.specs.declared.Options.{Options}
use Rattle.causes.specs.Causes.{tim_acts}
use Rattle.frame.specs.Layers.{degraded}
use Rattle.second.specs.declared.Blocks.{Blocks}
use Rattle.second.specs.declared.Shows.{Shows}
use Rattle.second.specs.Second.{blocks_of, discard_of, no_blocks}
use Rattle.level.specs.Status.{status_for, raises_ltc, raises_iae, raises_lck, raises_oci, raises_ais}
use Rattle.level.specs.declared.LevelState.{LevelState}
use Rattle.level.specs.declared.LevelStands.{LevelStands}
use Rattle.level.specs.declared.LevelActions.{LevelActions}
use Rattle.level.specs.declared.LevelCauses.{LevelCauses}
use Rattle.level.specs.declared.LevelSecond.{LevelSecond}

-- A frame. "A STAT, in whichever layer, .. [is] forgotten only during that layer's SSF" (document 01). dTIM and dBDI are false during CI_SSF and dAIS
-- (6.2.2.1, 6.2.6.6.1), dBIAE during CI_SSF, dAIS and dTIM: "BIAE stands in BEI" (document 02), 1011 in three frames in a row, cleared by three
-- others (6.2.6.11.1). So STAT comes first, then trace and BDI, then dTIM, then dBIAE.
unfoldable pub level_of : LevelState → Options → Bool → Multi → Field → LevelState
level_of s p ssf m f =
    let t : Stat = stat_of s.stat ssf f.stat in
    let forget : Bool = ssf || raises_ais (status_for t) in
    let l : Layer = layer_of s.layer forget m.inmulti m.number f.tti f.bdi in
    let dTIM : Bool = tim_of l p.mode p.names in
    record { layer = l; stat = t; biae = filter_of s.biae 3 (forget || dTIM) (is_biae (bei_of f.bei)) }

-- The defects, where dTIM is known. dIAE is the accepted STAT 010 (6.2.6.10.2), and false during CI_SSF, dAIS and dTIM: in SSF no STAT is accepted, and
-- 111 is not 010, so dTIM alone is left to mask it. The STAT stays, and so dIAE stands again in the frame in which dTIM ends.
unfoldable pub stands_by : LevelState → Bool → Bool → Bool → LevelStands
stands_by s ssf dTIM disabled = record {
  ssf = ssf;
  status = status_for s.stat;
  tim = dTIM;
  disabled = disabled;
  bdi = s.layer.bdi.on;
  iae = raises_iae (status_for s.stat) && not dTIM;
  biae = s.biae.on;
  deg = s.layer.deg.on;
}

-- what stands of a level, whose SSF is the path's: "Each level takes path SSF" (document 02)
abbrev pub level_stands : LevelState → Options → Bool → LevelStands
level_stands s p ssf = stands_by s ssf (tim_of s.layer p.mode p.names) p.disabled

-- the level after a frame, with what stands there
pub record LevelFrame : Type 0 where
  pub state : LevelState
  pub stands : LevelStands

abbrev pub level_frame : LevelState → Options → Bool → Multi → Field → LevelFrame
level_frame s p ssf m f = record { state = level_of s p ssf m f; stands = level_stands (level_of s p ssf m f) p ssf }

-- the defects of the accepted STAT, by their names in the clause
abbrev pub dAIS : LevelStands → Bool
dAIS d = raises_ais d.status

abbrev pub dLTC : LevelStands → Bool
dLTC d = raises_ltc d.status

abbrev pub dOCI : LevelStands → Bool
dOCI d = raises_oci d.status

abbrev pub dLCK : LevelStands → Bool
dLCK d = raises_lck d.status

-- the five that fail a level whatever its trace: CI_SSF, dAIS, dLTC, dOCI, dLCK
abbrev pub level_down : LevelStands → Bool
level_down d = d.ssf || dAIS d || dLTC d || dOCI d || dLCK d

-- aTSF: CI_SSF or (dAIS or dLTC or dOCI or dLCK or (dTIM and (not TIMActDis))). aTSD: dDEG. (14.5.1.1.3, where aTSF is printed aTSP)
abbrev pub level_actions : LevelStands → LevelActions
level_actions d = record { tsf = level_down d || tim_acts d.tim d.disabled; tsd = d.deg }

-- cSSF: CI_SSF or dAIS. cLTC, cOCI, cLCK: dLTC, dOCI, dLCK and (not CI_SSF). cTIM: dTIM and none of the five. cDEG, cBDI: dDEG, dBDI and none of the five
-- and (not (dTIM and (not TIMActDis))). (14.5.1.1.3)
abbrev pub level_causes : LevelStands → LevelCauses
level_causes d = record {
  ssf = d.ssf || dAIS d;
  ltc = dLTC d && not d.ssf;
  oci = dOCI d && not d.ssf;
  lck = dLCK d && not d.ssf;
  tim = d.tim && not (level_down d);
  deg = d.deg && not (level_down d || tim_acts d.tim d.disabled);
  bdi = d.bdi && not (level_down d || tim_acts d.tim d.disabled);
}

-- What a frame shows. pN_DS: CI_SSF or (dAIS or dLTC or dOCI or dLCK or dTIM). pF_DS: dBDI. No errored block is counted during CI_SSF, dAIS, dLTC, dLCK
-- and dOCI (14.5.1.1.3, notes 2 and 3): dTIM stops no count.
abbrev pub level_shows : LevelStands → ℕ → ℕ → Shows
level_shows d bei violations = record {
  stopped = level_down d;
  near = leb 1 violations;
  far = bei_of bei;
  neards = level_down d || d.tim;
  fards = d.bdi;
}

-- the open second after one more frame; pIAE and pBIAE: whether dIAE and dBIAE stood in it once (14.5.1.1.3, notes 4 and 5)
unfoldable pub level_count : LevelSecond → LevelStands → ℕ → ℕ → LevelSecond
level_count c d bei violations = record {
  blocks = blocks_of c.blocks (level_shows d bei violations);
  iae = c.iae || d.iae;
  biae = c.biae || d.biae;
}

-- "An IAE or BIAE second discards the level's values as the section's." (document 02; 14.5.1.1.3, note 6; of the earlier second in crate late)
abbrev pub level_closed : LevelSecond → Blocks
level_closed c = discard_of c.blocks c.iae c.biae

-- A mark. "dDEG, decided at a mark: a second is bad if its near-end block count, after discard, is at least DEGThr. DEGM bad seconds in a row raise it, DEGM
-- others clear it." (document 01; 6.2.3.4, 14.5.1.1.3, note 1)
unfoldable pub level_marked : LevelState → Options → LevelSecond → LevelState
level_marked s p c = record {
  layer = degraded s.layer p (level_closed c).near.0;
  stat = s.stat;
  biae = s.biae;
}

-- no frame yet: no STAT and no trace is accepted, no defects
abbrev pub fresh_level : LevelState
fresh_level = record { layer = fresh_layer; stat = no_stat; biae = quiet }

-- a second with no frame yet
abbrev pub fresh_level_second : LevelSecond
fresh_level_second = record { blocks = no_blocks; iae = false; biae = false }
