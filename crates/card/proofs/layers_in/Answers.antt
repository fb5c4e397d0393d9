use Rattle.card.proofs.Parts.{layers_are}
use Rattle.card.proofs.layers_in.Goals as goal

pub returns : goal.returns
returns c =
    layers_are c.args.sup.now c.requires c.args.overhead.now c.args.flags c.args.sm c.args.pm _ _ _ _ _ _ _ _ _ c.overhead_of-o.ensures c.line_at-a.ensures c.ssf_of-ssf.ensures c.section_at-section.ensures c.tim_acts-acts.ensures c.path_at-p.ensures
