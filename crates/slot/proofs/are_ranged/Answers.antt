use Rattle.std.proofs.Common.{rules, refl, ◌≡◌, ◌∙◌, ◌/◌, length, ap, arith}
use Rattle.std.specs.Iterator.Adapters.{zip_first, zip_second}
use Rattle.std.specs.Simd.{first_chunks}
use Rattle.std.specs.Slice.Iter.{iter_rest}
use Rattle.ranges.specs.Sound.{below}
use Rattle.slot.specs.Slot.{slot_greatest}
use Rattle.slot.proofs.Chunks.{words_chunks}
use Rattle.slot.proofs.are_ranged.Goals as goal

pub loop-most-init : goal.loop-most-init
loop-most-init c =
    let b = c.args.b.now in
    let it = c.into_iter-most-iterator.result in
    let n : length b / 4 ≡ 51 = omega (arith, c.told-b) in
    let hs : iter_rest (zip_first it) ≡ slot_greatest = search rules in
    let fs : iter_rest (zip_second it) ≡ first_chunks 4 (length b / 4) b = search rules in
    let f : iter_rest (zip_second it) ≡ first_chunks 4 51 b = fs ∙ ap (λ k. first_chunks 4 k b) n in record {
      long = rw (hs, f) refl;
      so_far = rw (hs, f) (ap (below slot_greatest) (words_chunks 51 b));
    }
