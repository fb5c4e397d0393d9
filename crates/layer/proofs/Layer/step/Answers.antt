use Rattle.layer.specs.Layer.{layer_of}
use Rattle.layer.proofs.Stepped.{parts_step}
use Rattle.layer.proofs.Layer.step.Goals as goal

pub returns : goal.returns
unfolding layer_of
returns c =
    let a = c.args in
    let s = c.step.ensures in
    rw (s.cycle, s.accepted, s.gathered, s.previous, ← c.filter_step-self.ensures)
    (parts_step a.self.now a.forget a.inmulti a.number a.tti c.filter_step-self.result)
