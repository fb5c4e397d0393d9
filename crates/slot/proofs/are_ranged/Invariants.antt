use Rattle.std.proofs.Common.{◌≡◌, ◌&&◌, length, map}
use Rattle.std.specs.Iterator.Adapters.{zip_first, zip_second}
use Rattle.std.specs.Slice.Iter.{iter_rest}
use Rattle.ranges.specs.Sound.{below}
use Rattle.slot.specs.Slot.{figures_ranged}
use Rattle.words.specs.Words.{words_of}
use Rattle.slot.proofs.Chunks.{word}
use Rattle.slot.proofs.are_ranged.Given as goal

abbrev pub invariant-loop-most : goal.invariant-loop-most
invariant-loop-most l =
    let hs = iter_rest (zip_first l.most-iterator) in
    let fs = iter_rest (zip_second l.most-iterator) in record {
      long : length hs ≡ length fs;
      so_far : figures_ranged (words_of 51 l.b) ≡ (l.good && below hs (map word fs));
    }
