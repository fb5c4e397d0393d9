use Rattle.std.proofs.Common.{◌≡◌, sym, ap, ◌∙◌, map, length-set, arith}
use lib.ListN.{length-map, get_or-map}
use Rattle.tandem.specs.Levels.{blank_level}
use Rattle.answer.proofs.Copies.{one_more, whole}
use Rattle.answer.proofs.Each.{any_default}
use Rattle.late.specs.Late.{level_erred}
use Rattle.late.proofs.levels_erred.Goals as goal

pub loop-i-preserved : goal.loop-i-preserved
loop-i-preserved c =
    let l = c.loop-i in
    let ls = c.args.levels.now in
    let g = get_or-map level_erred ls l.i blank_level in
    let f = c.level_erred.ensures ∙ ap level_erred (any_default ls l.i _ blank_level (omega arith)) ∙ sym g in
    record { long = simp length-set (omega arith); so_far = one_more l.erred (map level_erred ls) l.i _ _ l.invariant.so_far (omega arith) (simp length-map (omega arith)) f }

pub returns : goal.returns
returns c =
    let l = c.loop-i in
    let ls = c.args.levels.now in
    let e : l.i ≡ 6 = omega arith in
    whole l.erred (map level_erred ls) 6 (rw e at l.invariant.so_far) (omega arith) (simp length-map (omega arith))
