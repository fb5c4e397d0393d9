use mathlib.Core.Path.{◌∙◌}
use native.Mathlib.Omega.{arith}
use lib.Seq.{length-take-le}
use Rattle.card.proofs.Late.{stored_late}
use Rattle.card.proofs.store_late.Goals as goal

pub returns : goal.returns
returns c =
    let n = c.requires in
    stored_late c.args.sup.now _ _ c.args.s c.requires (c.store.auto.sup ∙ length-take-le 2448 c.args.sup.now (omega arith)) c.store.ensures c.pour.ensures
