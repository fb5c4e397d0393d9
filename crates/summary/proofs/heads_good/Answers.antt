use Rattle.std.proofs.Common.{◌≡◌, ◌∙◌, arith}
use Rattle.summary.proofs.Heads.{good_all}
use Rattle.summary.proofs.heads_good.Goals as goal

pub returns : goal.returns
returns c =
    let e : c.loop-x.x-index ≡ 10 = omega (arith, c.told-h) in
    rw e at c.loop-x.invariant ∙ good_all c.args.h.now c.args.most
