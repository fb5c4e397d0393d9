use Rattle.std.proofs.Common.{arith}
use Rattle.tandem.specs.Levels.{mark_rule}
use Rattle.tandem.proofs.Turns.{changed}
use Rattle.tandem.proofs.levels_mark.Goals as goal

pub loop-level-preserved : goal.loop-level-preserved
loop-level-preserved c =
    let l = c.loop-level in
    changed mark_rule c.args.levels.now l.levels l.level-index _ _ l.invariant (omega arith) c.mark.ensures
