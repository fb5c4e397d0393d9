use Rattle.std.proofs.Common.{◌≡◌, ◌&&◌, length}
use Rattle.std.specs.Iterator.Adapters.{zip_first, zip_second}
use Rattle.std.specs.Slice.Iter.{iter_rest}
use Rattle.words.specs.Ranges.{inside}
use Rattle.words.proofs.in_range.Given as goal

abbrev pub invariant-loop-least : goal.invariant-loop-least
invariant-loop-least g l =
    let ranges = zip_first l.least-iterator in
    let los = iter_rest (zip_first ranges) in
    let his = iter_rest (zip_second ranges) in
    let ws = iter_rest (zip_second l.least-iterator) in record {
      long : length los ≡ length ws;
      as_long : length his ≡ length ws;
      so_far : inside l.lo l.hi l.w ≡ (l.good && inside los his ws);
    }
