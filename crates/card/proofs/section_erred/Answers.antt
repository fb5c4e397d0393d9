use Rattle.card.proofs.Late.{section_is}
use Rattle.card.proofs.section_erred.Goals as goal

pub returns : goal.returns
returns c = section_is c.args.sup.now _ c.requires c.erred_in.ensures
