use Rattle.card.proofs.Parts.{mark_is}
use Rattle.card.proofs.mark_in.Goals as goal

pub returns : goal.returns
returns c =
    mark_is c.args.sup.now c.requires.sup_value c.args.k c.args.number _ _ _ _ _ _ _ c.requires.k_value c.requires.number_value c.words_in-c.ensures c.close_at-section.ensures c.close_at-path.ensures c.open_at.ensures c.figures.ensures
