use Rattle.card.proofs.Late.{late_is, late_not}
use Rattle.card.proofs.is_late.Goals as goal

pub returns-then-sup-eq2652 : goal.returns-then-sup-eq2652
returns-then-sup-eq2652 c = late_is c.args.sup.now _ _ c.if-sup-eq2652.true c.is_tandem-tandem.ensures c.is_slot-slot.ensures

pub returns : goal.returns
returns c = late_not c.args.sup.now c.if-sup-eq2652.false
