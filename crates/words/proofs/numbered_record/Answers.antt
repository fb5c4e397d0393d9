use Rattle.std.proofs.Common.{[], ◌∷◌, replicate, arith}
use Rattle.words.specs.Words.{flat}
use Rattle.words.proofs.Words.{over_two}
use Rattle.words.proofs.numbered_record.Goals as goal

pub returns : goal.returns
unfolding flat
returns c = over_two (replicate 208 0) _ _ (c.args.number ∷ []) c.args.v.now 4 (omega arith) (omega arith) c.put_word.ensures c.put_words.ensures
