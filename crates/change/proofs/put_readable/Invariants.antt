use Rattle.std.proofs.Common.{◌≡◌, ◌++◌, ◌+◌, length, take}
use Rattle.change.specs.Change.{readable_of}
use Rattle.change.proofs.put_readable.Given as goal

abbrev pub invariant-loop-b : goal.invariant-loop-b
invariant-loop-b g l = record {
  so_far : l.out.items ≡ l.fn.out.items ++ readable_of (take l.b-index l.trace);
  bound : length l.out.items ≡ length l.fn.out.items + l.b-index;
}
