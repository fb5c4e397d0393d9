use Rattle.std.proofs.Common.{◌≡◌, ◌++◌, ◌+◌, ◌*◌, ◌≤◌, length}
use Rattle.change.specs.Change.{levels_to, trace_of}
use Rattle.change.proofs.put_level_traces.Given as goal

abbrev pub invariant-loop-i : goal.invariant-loop-i
invariant-loop-i g l = record {
  so_far : l.out.items ≡ l.fn.out.items ++ levels_to (trace_of l.before l.after) (length l.yielded);
  bound : length l.out.items ≤ length l.fn.out.items + 78 * length l.yielded;
}
