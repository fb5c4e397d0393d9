use Rattle.std.proofs.Common.{◌≡◌, length, take}
use Rattle.late.specs.Late.{levels_erred}
use Rattle.bays.specs.Image.{tandem_from}
use Rattle.card.proofs.levels_erred.Given as goal

abbrev pub invariant-loop-i : goal.invariant-loop-i
invariant-loop-i l = record { long : length l.level-items ≡ 6; so_far : take l.i l.level-items ≡ take l.i (levels_erred (tandem_from l.sup)) }
