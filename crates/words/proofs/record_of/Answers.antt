use Rattle.std.proofs.Common.{replicate, arith}
use Rattle.words.proofs.Words.{over_two}
use Rattle.words.proofs.record_of.Goals as goal

pub returns : goal.returns
returns c = over_two (replicate 208 0) _ _ c.args.v.now c.args.w.now 88 (omega arith) (omega arith) c.put_words.ensures c.put_words-2.ensures
