use Rattle.std.proofs.Common.{◌+◌, ◌*◌, ◌-◌, ◌∙◌, refl, arith}
use Rattle.tandem.proofs.Turns.{figures_begin, begin_long, figures_turn, put_long}
use Rattle.tandem.proofs.figures_of.Goals as goal

pub loop-i-init : goal.loop-i-init
loop-i-init c =
    let e = c.copy_from_slice.ensures in
    record { long = begin_long _ _ e.len refl; so_far = figures_begin c.args.base.now _ _ e.len e.after }

pub loop-i-preserved : goal.loop-i-preserved
loop-i-preserved c =
    let l = c.loop-i in
    let a = c.args in
    let e = c.copy_from_slice-in-loop-i.ensures.after ∙ c.five.ensures in
    record {
      long = put_long l.out _ (22 + 5 * l.i) (27 + 5 * l.i - (22 + 5 * l.i)) l.invariant.long (omega arith) (omega arith);
      so_far = figures_turn a.base.now a.levels.now l.i _ _ l.out _ (omega arith) (omega arith) l.invariant.so_far e;
    }
