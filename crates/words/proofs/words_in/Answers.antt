use Rattle.std.proofs.Common.{◌*◌, ◌∙◌, sym, drop, arith, length-set}
use Rattle.answer.proofs.Copies.{grow, whole}
use Rattle.words.specs.Words.{words_of}
use Rattle.words.proofs.Words.{word_of, word_at_drop, length_words, words_room}
use Rattle.words.proofs.words_in.Goals as goal

pub loop-i-preserved : goal.loop-i-preserved
loop-i-preserved g c =
    let l = c.loop-i in
    let n = g.row.N in
    let b = drop c.args.at c.args.b.now in record {
      size = length-set _ _ _ ∙ l.invariant.size;
      so_far =
          grow l.x-items (words_of n b) l.i _ l.invariant.so_far (omega (arith, l.invariant.size)) (rw length_words (omega arith))
          (c.word_at.ensures ∙ sym (word_of n b l.i (omega arith) ∙ word_at_drop c.args.b.now c.args.at (l.i * 4)));
    }

pub returns-after-loop-i : goal.returns-after-loop-i
returns-after-loop-i g c =
    let l = c.loop-i in
    let n = g.row.N in
    let b = drop c.args.at c.args.b.now in
    whole l.x-items (words_of n b) l.i l.invariant.so_far (omega (arith, l.invariant.size)) (rw length_words (omega arith))
    ∙ sym (words_room n c.args.at c.args.b.now (omega arith))
