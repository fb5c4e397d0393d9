use Rattle.std.proofs.Common.{◌≡◌, take, drop, length}
use Rattle.words.specs.Words.{words_of}
use Rattle.words.proofs.words_in.Given as goal

abbrev pub invariant-loop-i : goal.invariant-loop-i
invariant-loop-i g l = record {
  size : length l.x-items ≡ g.row.N;
  so_far : take l.i l.x-items ≡ take l.i (words_of g.row.N (drop l.from l.b));
}
