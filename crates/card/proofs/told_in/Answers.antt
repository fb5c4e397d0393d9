use Rattle.card.proofs.Halves.{told_is}
use Rattle.card.proofs.told_in.Goals as goal

pub returns : goal.returns
returns c =
    told_is c.args.sup.now c.requires.sup_value c.args.n _ _ _ _ _ _ c.ssf_in-ssf.ensures c.given_at-given.ensures c.stands_at-stands.ensures c.level_actions-actions.ensures c.level_causes-causes.ensures c.level_word.ensures
