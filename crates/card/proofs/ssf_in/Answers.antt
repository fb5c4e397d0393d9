use Rattle.card.proofs.Ssf.{ssf_is}
use Rattle.card.proofs.ssf_in.Goals as goal

pub returns : goal.returns
returns c =
    ssf_is c.args.sup.now _ _ c.args.flags _ _ _ _ _ _ c.requires c.array_in.ensures c.array_in-2.ensures c.head_in-head.ensures c.align_in-align.ensures c.frames_of-n.ensures c.line_of-line.ensures c.ssf_of-ssf.ensures c.acts_in-acts.ensures
