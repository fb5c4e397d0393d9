use Rattle.std.proofs.Common.{◌≡◌, ◌++◌, ◌*◌, ◌+◌, ◌≤◌, length, take}
use Rattle.listing.specs.Text.{fields_of}
use Rattle.listing.proofs.put_fields.Given as goal

abbrev pub invariant-loop-n : goal.invariant-loop-n
invariant-loop-n g l = record {
  so_far : l.out.items ≡ l.fn.out.items ++ fields_of (take l.n-index l.ns);
  bound : length l.out.items ≤ length l.fn.out.items + 21 * l.n-index;
}
