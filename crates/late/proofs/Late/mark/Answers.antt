use Rattle.std.proofs.Common.{drop, length-drop, arith}
use lib.Seq.{take_all}
use Rattle.late.specs.Late.{late_marked}
use Rattle.late.proofs.Late.mark.Goals as goal

pub returns-clause-ok : goal.returns-clause-ok
unfolding late_marked
returns-clause-ok c =
    let e = c.in_ok-closed.ensures in
    let w = take_all 51 (drop 1 c.in_ok-closed.closed) (simp length-drop (omega arith)) in
    rw (← e.refusal, c.copy_from_slice.ensures.after, w, e.figures, e.ok)
