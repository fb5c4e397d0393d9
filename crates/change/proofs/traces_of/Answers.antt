use Rattle.std.proofs.Common.{◌≡◌, arith}
use Rattle.std.proofs.Math.ListN.{length-set}
use Rattle.answer.proofs.Each.{turn, turned}
use Rattle.change.specs.Change.{seen_rule}
use Rattle.change.proofs.traces_of.Goals as goal

pub loop-i-preserved : goal.loop-i-preserved
loop-i-preserved c =
    let l = c.loop-i in
    let a = c.args in
    record { size = simp length-set l.invariant.size; so_far = turn seen_rule 1 a.ls.now l.seen l.i _ _ l.invariant.so_far (omega arith) (omega arith) c.level_seen.ensures }

pub returns : goal.returns
returns c =
    let l = c.loop-i in
    let e : l.i ≡ 6 = omega arith in
    turned seen_rule 1 c.args.ls.now l.seen 6 (rw e at l.invariant.so_far) (omega arith) (omega arith)
