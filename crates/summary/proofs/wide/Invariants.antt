use Rattle.std.proofs.Common.{◌≡◌, take, drop, length}
use Rattle.summary.proofs.wide.Given as goal

abbrev pub invariant-loop-i : goal.invariant-loop-i
invariant-loop-i g l = record {
  size : length l.x-items ≡ g.row.N;
  so_far : take l.i l.x-items ≡ take l.i (take g.row.N (drop l.at l.f));
}
