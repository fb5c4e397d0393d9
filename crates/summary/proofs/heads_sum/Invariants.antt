use Rattle.std.proofs.Common.{◌≡◌, take, length}
use Rattle.summary.specs.Summary.{heads_sum}
use Rattle.summary.proofs.heads_sum.Given as goal

abbrev pub invariant-loop-i : goal.invariant-loop-i
invariant-loop-i l = record {
  size : length l.x-items ≡ 10;
  so_far : take l.i l.x-items ≡ take l.i (heads_sum l.h l.k);
}
