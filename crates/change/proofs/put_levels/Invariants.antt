use Rattle.std.proofs.Common.{◌≡◌, ◌++◌, ◌+◌, ◌*◌, ◌≤◌, length}
use Rattle.change.specs.Change.{levels_to, words_of}
use Rattle.change.proofs.put_levels.Given as goal

abbrev pub invariant-loop-i : goal.invariant-loop-i
invariant-loop-i g l = record {
  so_far : l.out.items ≡ l.fn.out.items ++ levels_to (words_of l.before l.after) (length l.yielded);
  bound : length l.out.items ≤ length l.fn.out.items + 228 * length l.yielded;
}
