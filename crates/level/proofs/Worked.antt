-- Frames of one level, worked: each by computing. Assumes nothing.
use mathlib.Core.Path.{◌≡◌, refl}
use mathlib.Core.Bool.{Bool, true, false, not}
use mathlib.Core.List.{[], ◌∷◌, ◌++◌, map}
use lib.ListN.{replicate}
use Rattle.names.specs.Names.{same_in, same_trace, compared_of}
use Rattle.overhead.specs.Overhead.{far_block}
use Rattle.overhead.specs.Bei.{path_bei, bei_of}
use Rattle.filter.specs.Filter.{up_of, add_of, filter_of}
use Rattle.filter.specs.Stat.{in_row, stat_of}
use Rattle.layer.specs.Layer.{equal_of, closed_cycle, byte_of, trace_of, layer_of, tim_of}
use Rattle.causes.specs.Causes.{tim_acts}
use Rattle.second.specs.Second.{near_of, far_of, sum_of, counted_of, blocks_of, discard_of}
use Rattle.level.specs.Status.{status_of, status_for}
use Rattle.level.specs.Level.{level_of, stands_by, level_actions, level_causes, level_count}
use Rattle.level.specs.Worked.{cycled, LevelWorked}
use Rattle.level.specs.declared.LevelStands.{LevelStands}

-- the three cycles, whether dTIM acts or not
iae_of : (disabled : Bool) → map (λ (d : LevelStands). d.iae) (cycled disabled) ≡ replicate 2 false ++ (replicate 191 true ++ (false ∷ []))
unfolding same_in same_trace compared_of far_block path_bei bei_of up_of filter_of in_row stat_of equal_of closed_cycle byte_of trace_of layer_of tim_of tim_acts status_of status_for level_of stands_by
iae_of true = refl
iae_of false = refl

cause_of : (disabled : Bool) → map (λ (d : LevelStands). (level_causes d).tim) (cycled disabled) ≡ replicate 193 false ++ (true ∷ [])
unfolding same_in same_trace compared_of far_block path_bei bei_of up_of filter_of in_row stat_of equal_of closed_cycle byte_of trace_of layer_of tim_of tim_acts status_of status_for level_of stands_by
cause_of true = refl
cause_of false = refl

tsf_of : (disabled : Bool) → map (λ (d : LevelStands). (level_actions d).tsf) (cycled disabled) ≡ replicate 193 false ++ (not disabled ∷ [])
unfolding same_in same_trace compared_of far_block path_bei bei_of up_of filter_of in_row stat_of equal_of closed_cycle byte_of trace_of layer_of tim_of tim_acts status_of status_for level_of stands_by
tsf_of true = refl
tsf_of false = refl

pub worked : LevelWorked
unfolding far_block path_bei bei_of up_of add_of filter_of in_row stat_of trace_of layer_of tim_of near_of far_of sum_of counted_of blocks_of discard_of status_of status_for level_of stands_by level_count
worked = record {
  ltc = refl;
  ltc_second = refl;
  ltc_again = refl;
  iae = refl;
  iae_blocks = refl;
  iae_second = refl;
  biae = refl;
  biae_blocks = refl;
  biae_second = refl;
  tim_iae = iae_of;
  tim_cause = cause_of;
  tim_tsf = tsf_of;
}
