use Rattle.card.proofs.Calls.{fresh_done, fresh_refused}
use Rattle.card.proofs.otn_fresh.Goals as goal

pub returns-in-Ok : goal.returns-in-Ok
returns-in-Ok c = fresh_done c.args.sup.now _ _ _ c.in-Ok.ensures.refusal c.fresh-s.ensures c.store_late.ensures

pub returns-in-Err : goal.returns-in-Err
returns-in-Err c = fresh_refused c.args.sup.now _ _ _ c.in-Err.ensures.refusal c.coded.ensures
