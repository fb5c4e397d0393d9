use native.Mathlib.Omega.{arith}
use Rattle.card.proofs.Calls.{level_trace_done, level_trace_refused_lem}
use Rattle.card.proofs.otn_level_trace.Goals as goal

pub returns-in-Ok : goal.returns-in-Ok
returns-in-Ok c =
    let e = c.in-Ok.ensures in
    level_trace_done c.args.sup.now c.args.level c.args.out.now _ _ e.refusal e.trace (omega arith) e.room c.pour.ensures

pub returns-in-Err : goal.returns-in-Err
returns-in-Err c = level_trace_refused_lem c.args.sup.now c.args.level c.args.out.now _ _ c.in-Err.ensures.refusal c.coded.ensures
