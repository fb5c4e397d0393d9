use Rattle.std.proofs.Common.{◌≡◌, ◌&&◌, length}
use Rattle.std.specs.Iterator.Adapters.{zip_first, zip_second}
use Rattle.std.specs.Slice.Iter.{iter_rest}
use Rattle.bay.specs.Bay.{all_sound}
use Rattle.bay.proofs.are_sound.Given as goal

abbrev pub invariant-loop-record : goal.invariant-loop-record
invariant-loop-record l =
    let rs = iter_rest (zip_first l.record-iterator) in
    let bs = iter_rest (zip_second l.record-iterator) in record {
      long : length rs ≡ length bs;
      so_far : all_sound (iter_rest (zip_first l.initial.record-iterator)) ≡ (l.good && all_sound rs);
    }
