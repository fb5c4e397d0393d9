use Rattle.std.proofs.Common.{arith}
use Rattle.words.proofs.Words.{over_word}
use Rattle.words.proofs.put_words.Goals as goal

pub loop-i-preserved : goal.loop-i-preserved
loop-i-preserved c =
    let l = c.loop-i in
    over_word c.args.b.now c.put_word.new.b l.b c.args.w.now c.args.at l.i c.put_word.ensures l.invariant (omega arith) (omega arith)
