use Rattle.card.proofs.Calls.{level_done, level_refused}
use Rattle.card.proofs.otn_level.Goals as goal

pub returns-in-Ok : goal.returns-in-Ok
returns-in-Ok c = level_done c.args.sup.now _ _ _ c.in-Ok.ensures.sound _ c.in-Ok.ensures.refusal c.level_in.ensures

pub returns-in-Err : goal.returns-in-Err
returns-in-Err c = level_refused c.args.sup.now _ _ _ _ _ c.in-Err.ensures.refusal c.coded.ensures
