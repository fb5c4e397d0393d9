use Rattle.std.proofs.Common.{◌≡◌, ◌&&◌, length}
use Rattle.std.specs.Iterator.Adapters.{zip_first, zip_second}
use Rattle.std.specs.Slice.Iter.{iter_rest}
use Rattle.ranges.specs.Sound.{below}
use Rattle.ranges.proofs.is_below.Given as goal

abbrev pub invariant-loop-most : goal.invariant-loop-most
invariant-loop-most g l =
    let hs = iter_rest (zip_first l.most-iterator) in
    let bs = iter_rest (zip_second l.most-iterator) in record {
      long : length hs ≡ length bs;
      so_far : below l.greatest l.w ≡ (l.good && below hs bs);
    }
