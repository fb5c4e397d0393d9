use Rattle.std.proofs.Common.{◌≡◌, take, length}
use Rattle.words.specs.Words.{numbers_of}
use Rattle.words.proofs.numbers_in.Given as goal

abbrev pub invariant-loop-i : goal.invariant-loop-i
invariant-loop-i g l = record {
  size : length l.x-items ≡ g.row.N;
  so_far : take l.i l.x-items ≡ take l.i (numbers_of g.row.N l.b);
}
