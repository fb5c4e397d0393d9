use Rattle.card.proofs.Calls.{pending_told, pending_none, pending_refused_lem}
use Rattle.card.proofs.otn_pending.Goals as goal

pub returns-then-head-eq0 : goal.returns-then-head-eq0
returns-then-head-eq0 c =
    let e = c.in-Ok.ensures in
    pending_none c.args.sup.now c.args.out.now _ e.sound e.head e.refusal c.if-head-eq0.true

pub returns-else-head-eq0 : goal.returns-else-head-eq0
returns-else-head-eq0 c =
    let e = c.in-Ok.ensures in
    pending_told c.args.sup.now c.args.out.now _ e.sound e.head e.refusal _ _ _ c.if-head-eq0.false c.words_in-pending.ensures c.numbered_record-bytes.ensures c.pour.ensures

pub returns-in-Err : goal.returns-in-Err
returns-in-Err c = pending_refused_lem c.args.sup.now c.args.out.now _ _ c.in-Err.ensures.refusal c.coded.ensures
