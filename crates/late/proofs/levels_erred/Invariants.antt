use Rattle.std.proofs.Common.{◌≡◌, map, length, take}
use Rattle.late.specs.Late.{level_erred}
use Rattle.late.proofs.levels_erred.Given as goal

abbrev pub invariant-loop-i : goal.invariant-loop-i
invariant-loop-i l = record { long : length l.erred ≡ 6; so_far : take l.i l.erred ≡ take l.i (map level_erred l.levels) }
