use Rattle.std.proofs.Common.{◌≡◌, ◌≤◌, ◌+◌, ◌*◌, length, take}
use Rattle.tandem.specs.Levels.{listed_of}
use Rattle.tandem.proofs.listed_figures.Given as goal

abbrev pub invariant-loop-i : goal.invariant-loop-i
invariant-loop-i l = record { low : length l.listed.items ≤ 22 + 5 * l.i; so_far : l.listed.items ≡ listed_of (take l.i l.fn.levels) l.fn.figures }
