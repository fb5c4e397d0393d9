use Rattle.std.proofs.Common.{rules}
use Rattle.bays.proofs.Trip.{first_sound}
use Rattle.card.proofs.Halves.{frame_is}
use Rattle.card.proofs.frame_in.Goals as goal

pub step_in-a-requires : goal.step_in-a-requires
step_in-a-requires c =
    let f = rw c.unwrap.ensures at c.split_first_chunk_mut.ensures.cases in
    rw f.0 (first_sound c.args.sup.now c.requires.sup_value)

pub returns : goal.returns
returns c =
    let f = rw c.unwrap.ensures at c.split_first_chunk_mut.ensures.cases in
    let g = c.step_in-a.ensures in
    frame_is c.args.sup.now c.requires.sup_value c.args.overhead.now c.args.flags c.args.sm c.args.pm c.args.counts.now _ _ _ _ _ _ c.requires.counts_value f.0 f.1 g.0 g.1 c.frame_at.ensures c.report_word.ensures
