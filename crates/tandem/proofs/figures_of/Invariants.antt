use Rattle.std.proofs.Common.{◌≡◌, ◌+◌, ◌*◌, ◌++◌, length, take}
use Rattle.tandem.specs.Levels.{level_figures}
use Rattle.tandem.proofs.figures_of.Given as goal

abbrev pub invariant-loop-i : goal.invariant-loop-i
invariant-loop-i l = record { long : length l.out ≡ 52; so_far : take (22 + 5 * l.i) l.out ≡ l.fn.base ++ level_figures (take l.i l.fn.levels) }
