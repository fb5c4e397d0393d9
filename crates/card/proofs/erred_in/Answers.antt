use Rattle.card.proofs.Late.{erred_is}
use Rattle.card.proofs.erred_in.Goals as goal

pub returns : goal.returns
returns c = erred_is c.args.r.now _ _ c.array_in.ensures c.state_in-state.ensures
