use Rattle.tandem.specs.Levels.{mark_rule}
use Rattle.tandem.proofs.Turns.{SoFar}
use Rattle.tandem.proofs.levels_mark.Given as goal

abbrev pub invariant-loop-level : goal.invariant-loop-level
invariant-loop-level l = SoFar mark_rule l.fn.levels l.levels l.level-index
