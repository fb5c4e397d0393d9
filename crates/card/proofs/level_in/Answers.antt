use Rattle.card.proofs.Halves.{level_is}
use Rattle.card.proofs.level_in.Goals as goal

pub returns : goal.returns
returns c =
    level_is c.args.sup.now c.requires.sup_value c.args.n c.args.r.now c.args.names.now _ _ _ c.requires.names_len c.array_in.ensures c.options_of-options.ensures c.give_at.ensures
