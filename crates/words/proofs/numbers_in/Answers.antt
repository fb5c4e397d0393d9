use Rattle.std.proofs.Common.{◌∙◌, sym, arith, length-set}
use Rattle.answer.proofs.Copies.{grow, whole}
use Rattle.words.specs.Words.{numbers_of}
use Rattle.words.proofs.Words.{number_of, length_numbers, numbers_room}
use Rattle.words.proofs.numbers_in.Goals as goal

pub loop-i-preserved : goal.loop-i-preserved
loop-i-preserved g c =
    let l = c.loop-i in
    let n = g.row.N in
    let b = c.args.b.now in record {
      size = length-set _ _ _ ∙ l.invariant.size;
      so_far =
          grow l.x-items (numbers_of n b) l.i _ l.invariant.so_far (omega (arith, l.invariant.size)) (rw length_numbers (omega arith))
          (c.number_at.ensures ∙ sym (number_of n b l.i (omega arith)));
    }

pub returns : goal.returns
returns g c =
    let l = c.loop-i in
    let n = g.row.N in
    let b = c.args.b.now in
    whole l.x-items (numbers_of n b) l.i l.invariant.so_far (omega (arith, l.invariant.size)) (rw length_numbers (omega arith))
    ∙ sym (numbers_room n b (omega arith))
