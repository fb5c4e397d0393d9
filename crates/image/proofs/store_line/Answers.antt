use Rattle.image.proofs.Bytes.{line_laid}
use Rattle.image.proofs.store_line.Goals as goal

pub returns : goal.returns
returns c =
    let a = c.args in
    line_laid a.s _ _ _ a.b.now _ _ _
    c.head_bytes-head.ensures
    c.align_bytes-align.ensures
    c.counts_of-counts.ensures
    c.lay_bytes.ensures
    c.lay_bytes-2.ensures
    c.lay_words.ensures
