use Rattle.std.proofs.Common.{◌∙◌, ◌≡◌, ◌+◌, ◌*◌, ◌-◌, ap, length, arith, refl}
use lib.Seq.{take_all}
use Rattle.answer.proofs.Overs.{over_nil}
use Rattle.late.specs.Late.{void_levels}
use Rattle.late.proofs.Voids.{five_long, put_over, put_long, void_turn, void_whole}
use Rattle.late.proofs.void.Goals as goal

pub loop-i-init : goal.loop-i-init
unfolding void_levels
loop-i-init c =
    let five = ap length c.void_five.ensures ∙ five_long c.args.section _ in
    record { long = put_long c.args.v.now _ 11 5 c.told-v five (omega arith); so_far = over_nil _ 21 }

pub loop-i-preserved : goal.loop-i-preserved
loop-i-preserved c =
    let l = c.loop-i in
    let a = c.args in
    let s = l.invariant in
    let p = put_over l.v _ (21 + 5 * l.i) (26 + 5 * l.i - (21 + 5 * l.i)) _ (omega arith) (omega arith) c.void_five-in-loop-i.ensures in
    let first = put_long a.v.now _ 11 5 c.told-v (ap length c.void_five.ensures ∙ five_long a.section _) (omega arith) in
    let five = ap length c.void_five-in-loop-i.ensures ∙ five_long _ _ in
    let t = void_turn _ l.v _ a.levels.now l.i _ (omega arith) (omega (arith, first)) s.so_far p in
    record { long = put_long l.v _ (21 + 5 * l.i) (26 + 5 * l.i - (21 + 5 * l.i)) s.long (omega (arith, five)) (omega arith); so_far = t }

pub returns : goal.returns
returns c =
    let l = c.loop-i in
    let a = c.args in
    let e : l.i ≡ 6 = omega arith in
    let w = take_all 6 a.levels.now (omega arith) in
    let p = put_over a.v.now _ 11 5 _ refl (omega arith) c.void_five.ensures in
    (rw (e, w) at l.invariant.so_far) ∙ void_whole a.v.now _ a.section a.levels.now (omega arith) (omega arith) p
