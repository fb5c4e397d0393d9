use Rattle.card.proofs.Parts.{filed_is}
use Rattle.card.proofs.step_in.Goals as goal

pub returns : goal.returns
returns c =
    let f = c.layers_in-a.ensures in
    filed_is c.args.sup.now c.requires c.args.overhead.now c.args.flags c.args.sm c.args.pm _ _ _ _ f.0 f.1 c.report_by_table-report.ensures c.tally_at.ensures
