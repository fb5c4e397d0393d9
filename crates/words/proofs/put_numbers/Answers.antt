use Rattle.std.proofs.Common.{arith}
use Rattle.words.proofs.Words.{over_number}
use Rattle.words.proofs.put_numbers.Goals as goal

pub loop-i-preserved : goal.loop-i-preserved
loop-i-preserved c =
    let l = c.loop-i in
    over_number c.args.b.now c.put_number.new.b l.b c.args.v.now l.i c.put_number.ensures l.invariant (omega arith)
