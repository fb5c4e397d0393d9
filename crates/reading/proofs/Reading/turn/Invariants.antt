use Rattle.std.proofs.Common.{◌-◌, length}
use Rattle.reading.proofs.Lines.{Going}
use Rattle.reading.proofs.Reading.turn.Given as goal

abbrev pub invariant-loop-before : goal.invariant-loop-before
invariant-loop-before l = Going l.fn.self l.s l.out.items l.at l.self

abbrev pub decreases-loop-before : goal.decreases-loop-before
decreases-loop-before l = length l.s - l.at
