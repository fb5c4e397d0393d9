use Rattle.std.proofs.Common.{rules, ◌≡◌, take, drop, ap, ◌∙◌}
use Rattle.std.proofs.lemmas.Slice.Zip.{either_empty_from_Zip}
use Rattle.std.specs.Iterator.Adapters.{zip_first}
use Rattle.std.specs.Slice.Iter.{iter_rest}
use borrow.Rule.Slice.PartMut.{mid_of}
use Rattle.bay.specs.Bay.{all_sound, records_of}
use Rattle.bay.proofs.Chains.{records_are, sound_end}
use Rattle.bay.proofs.are_sound.Goals as goal

pub returns : goal.returns
returns c =
    let b = c.args.b.now in
    let l = c.loop-record in
    let m : mid_of 32 1728 b ≡ take 1728 (drop 32 b) = search rules in
    let e : c.as_chunks.result.0.now ≡ records_of b = (rw m at c.as_chunks.ensures.front) ∙ records_are b (search rules) in
    let i : iter_rest (zip_first c.into_iter-record-iterator.result) ≡ c.as_chunks.result.0.now = search rules in
    let n = either_empty_from_Zip l.record-iterator c.next.new.self c.next.result c.in-None.is c.next.ensures.steps in
    sound_end _ l.good _ _ l.invariant.long n l.invariant.so_far ∙ ap all_sound (i ∙ e)
