use Rattle.std.proofs.Common.{◌≡◌, length-set, arith}
use Rattle.answer.proofs.Copies.{one_more, whole}
use Rattle.late.specs.Late.{levels_erred}
use Rattle.bays.specs.Image.{tandem_from}
use Rattle.card.proofs.Late.{neither, levels_long, erred_here}
use Rattle.card.proofs.levels_erred.Goals as goal

pub loop-i-preserved : goal.loop-i-preserved
loop-i-preserved c =
    let l = c.loop-i in
    let sup = c.args.sup.now in
    let n = levels_long sup c.requires in
    let f = erred_here sup c.requires l.i _ _ neither (omega arith) (omega arith) c.erred_in.ensures in
    record { long = simp length-set (omega arith); so_far = one_more l.level-items (levels_erred (tandem_from sup)) l.i _ neither l.invariant.so_far (omega arith) (omega arith) f }

pub returns : goal.returns
returns c =
    let l = c.loop-i in
    let sup = c.args.sup.now in
    let e : l.i ≡ 6 = omega arith in
    let n = levels_long sup c.requires in
    whole l.level-items (levels_erred (tandem_from sup)) 6 (rw e at l.invariant.so_far) (omega arith) (omega arith)
