use Rattle.std.proofs.Common.{◌≡◌, ◌++◌, [], ◌∷◌, ◌*◌, ◌+◌, ◌≤◌, length, take}
use Rattle.listing.specs.Text.{fields_of}
use Rattle.listing.proofs.put_second.Given as goal

abbrev pub invariant-loop-n : goal.invariant-loop-n
invariant-loop-n g l = record {
  so_far : l.out.items ≡ (l.fn.out.items ++ 83 ∷ []) ++ fields_of (take l.n-index l.n-items);
  bound : length l.out.items ≤ length l.fn.out.items + (1 + 21 * l.n-index);
}
