use Rattle.std.proofs.Common.{◌+◌, ◌*◌, ◌-◌, arith}
use Rattle.tandem.proofs.Turns.{listed_turn, listed_passed}
use Rattle.tandem.proofs.listed_figures.Goals as goal
use Rattle.tandem.proofs.listed_figures.Goals.{then-level, else-level}

pub loop-i-preserved : goal.loop-i-preserved
loop-i-preserved c =
    let l = c.loop-i in
    let ls = c.args.levels.now in
    let figures = c.args.figures.now in
    let s = l.invariant in
    elim c.if-level.branch [
      | then-level w ↦
          let e = rw w.unwrap-then-level.ensures at w.try_extend_from_slice-then-level.ensures.ok in
          let t = listed_turn ls figures l.i (27 + 5 * l.i - (22 + 5 * l.i)) _ _ _ (omega arith) (omega arith) w.if-level.true s.low s.so_far e in
          rw w.listed-is (record { low = t.0; so_far = t.1 })
      | else-level w ↦
          let t = listed_passed ls figures l.i _ _ (omega arith) w.if-level.false s.so_far in
          rw w.listed-is (record { low = omega arith; so_far = t })
    ]
