use Rattle.std.proofs.Common.{◌≡◌, length, take}
use Rattle.change.specs.Change.{traces_of}
use Rattle.change.proofs.traces_of.Given as goal

abbrev pub invariant-loop-i : goal.invariant-loop-i
invariant-loop-i l = record { size : length l.seen ≡ 6; so_far : take l.i l.seen ≡ take l.i (traces_of l.ls) }
