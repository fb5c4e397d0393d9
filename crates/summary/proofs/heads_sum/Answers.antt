use Rattle.std.proofs.Common.{◌∙◌, sym, arith, length-set}
use Rattle.answer.proofs.Copies.{grow, whole}
use Rattle.summary.specs.Summary.{heads_sum, both_at}
use Rattle.summary.proofs.Heads.{ten_at}
use Rattle.summary.proofs.heads_sum.Goals as goal

pub loop-i-preserved : goal.loop-i-preserved
loop-i-preserved c =
    let l = c.loop-i in
    let h = c.args.h.now in
    let k = c.args.k.now in record {
      size = length-set _ _ _ ∙ l.invariant.size;
      so_far = grow l.x-items (heads_sum h k) l.i _ l.invariant.so_far (omega (arith, l.invariant.size)) (omega arith) (sym (ten_at (both_at h k) l.i (omega arith)));
    }

pub returns : goal.returns
returns c = let l = c.loop-i in whole l.x-items (heads_sum c.args.h.now c.args.k.now) l.i l.invariant.so_far (omega (arith, l.invariant.size)) (omega arith)
