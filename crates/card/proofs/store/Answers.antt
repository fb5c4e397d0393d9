use Rattle.card.proofs.Halves.{stored_is}
use Rattle.card.proofs.store.Goals as goal

pub returns : goal.returns
returns c =
    stored_is c.args.sup.now _ _ c.args.s c.requires c.lay.ensures c.lay_bay.ensures
