use Rattle.card.proofs.Ssf.{acts_is}
use Rattle.card.proofs.acts_in.Goals as goal

pub returns : goal.returns
returns c = acts_is c.args.r.now _ _ _ _ _ _ _ _ c.array_in.ensures c.array_in-2.ensures c.front_in-front.ensures c.state_in-state.ensures c.array_in-accepted.ensures c.array_in-names.ensures c.tim-tim.ensures c.tim_acts.ensures
