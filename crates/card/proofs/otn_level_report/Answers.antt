use Rattle.card.proofs.Calls.{told_done, told_refused}
use Rattle.card.proofs.otn_level_report.Goals as goal

pub returns-in-Ok : goal.returns-in-Ok
returns-in-Ok c = told_done c.args.sup.now c.args.level _ c.in-Ok.ensures.refusal c.told_in.ensures

pub returns-in-Err : goal.returns-in-Err
returns-in-Err c = told_refused c.args.sup.now c.args.level _ _ c.in-Err.ensures.refusal c.coded.ensures
