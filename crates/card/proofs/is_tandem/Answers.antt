use Rattle.card.proofs.Halves.{tandem_is, tandem_not}
use Rattle.card.proofs.is_tandem.Goals as goal

pub returns-then-sup-eq2448 : goal.returns-then-sup-eq2448
returns-then-sup-eq2448 c = tandem_is c.args.sup.now _ _ c.if-sup-eq2448.true c.is_sound-base.ensures c.is_bay-levels.ensures

pub returns : goal.returns
returns c = tandem_not c.args.sup.now c.if-sup-eq2448.false
