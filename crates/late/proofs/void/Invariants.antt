use Rattle.std.proofs.Common.{◌≡◌, length, take, drop}
use Rattle.answer.specs.Over.{over}
use Rattle.late.specs.Late.{void_levels}
use Rattle.late.proofs.void.Given as goal

abbrev pub invariant-loop-i : goal.invariant-loop-i
invariant-loop-i l = record { long : length l.v ≡ 51; so_far : l.v ≡ over l.initial.v 21 (void_levels (take l.i l.levels) (drop 21 l.initial.v)) }
