-- A frame and a mark keep every number of a level in its range, and a fresh one has them there. Assumes nothing.
use Prim.Native.Nat.{◌≤◌}
use mathlib.Core.Path.{refl}
use mathlib.Core.Bool.{Bool, ◌||◌}
use native.Mathlib.Omega.{arith}
use Rattle.overhead.specs.Bei.{bei_of, is_biae}
use Rattle.overhead.specs.declared.Field.{Field}
use Rattle.filter.specs.Stat.{stat_of}
use Rattle.filter.proofs.Bounds.{filter_most, stat_most}
use Rattle.alignment.specs.declared.Multi.{Multi}
use Rattle.layer.specs.declared.Layer.{Layer}
use Rattle.layer.specs.Layer.{layer_of, tim_of}
use Rattle.settings.specs.declared.Options.{Options}
use Rattle.history.proofs.Ranges.{layer_in, blocks_in_lem, degraded_in}
use Rattle.level.specs.declared.LevelState.{LevelState}
use Rattle.level.specs.Level.{level_of, level_count, level_marked}
use Rattle.rack.specs.Rack.{forgets}
use Rattle.racks.specs.Racks.{LevelStateIn, LevelKept}

state_in_lem : (s : LevelState) (p : Options) (ssf : Bool) (m : Multi) (f : Field) → f.stat ≤ 7 → LevelStateIn s → LevelStateIn (level_of s p ssf m f)
unfolding level_of
state_in_lem s p ssf m f h i =
    let t = stat_most s.stat ssf f.stat 7 h i.accepted in
    let forget : Bool = forgets ssf (stat_of s.stat ssf f.stat) in
    let l : Layer = layer_of s.layer forget m.inmulti m.number f.tti f.bdi in
    record {
      layer = layer_in s.layer forget m.inmulti m.number f.tti f.bdi i.layer;
      value = t.0;
      run = t.1;
      accepted = t.2;
      biae = filter_most s.biae 3 2 (forget || tim_of l p.mode p.names) (is_biae (bei_of f.bei)) (omega arith);
    }

pub level_kept : (p : Options) → LevelKept p
unfolding level_count level_marked
level_kept p = record {
  framed = λ s c i ssf m f violations h. record {
    options = i.options;
    state = state_in_lem s p ssf m f h i.state;
    blocks = blocks_in_lem c.blocks _ i.blocks;
  };
  marked = λ s c i. record {
    options = i.options;
    state = record {
      layer = degraded_in s.layer p _ i.options.degm i.state.layer;
      value = i.state.value;
      run = i.state.run;
      accepted = i.state.accepted;
      biae = i.state.biae;
    };
    blocks = record { near = omega arith; far = omega arith; sum = omega arith };
  };
  fresh = λ i. record {
    options = i;
    state = record {
      layer = record { equal = omega arith; bdi = omega arith; deg = omega arith; accepted = refl; gathered = refl; previous = refl };
      value = omega arith;
      run = omega arith;
      accepted = omega arith;
      biae = omega arith;
    };
    blocks = record { near = omega arith; far = omega arith; sum = omega arith };
  };
}
