use mathlib.Core.Path.{ap, refl}
use Prim.Native.Nat.{ℕ, ◌+◌}
use Rattle.card.proofs.Calls.{k_is, seconds_is, mark_told, mark_first, mark_refused_lem}
use Rattle.card.proofs.otn_mark.Goals as goal

pub report_out-requires-clause-number_value : goal.report_out-requires-clause-number_value
report_out-requires-clause-number_value c = let e = c.in-Ok.ensures in seconds_is c.args.sup.now c.args.out.now _ e.sound e.head

pub mark_late-requires-clause-k_value : goal.mark_late-requires-clause-k_value
mark_late-requires-clause-k_value c = let e = c.in-Ok.ensures in k_is c.args.sup.now c.args.out.now _ e.sound e.head

pub mark_late-requires-clause-number_value : goal.mark_late-requires-clause-number_value
mark_late-requires-clause-number_value c = let e = c.in-Ok.ensures in ap (λ (m : ℕ). m + 1) (seconds_is c.args.sup.now c.args.out.now _ e.sound e.head)

pub mark_late-requires-in-Ok-clause-k_value : goal.mark_late-requires-in-Ok-clause-k_value
mark_late-requires-in-Ok-clause-k_value c = let e = c.in-Ok.ensures in k_is c.args.sup.now c.args.out.now _ e.sound e.head

pub mark_late-requires-in-Ok-clause-number_value : goal.mark_late-requires-in-Ok-clause-number_value
mark_late-requires-in-Ok-clause-number_value c = let e = c.in-Ok.ensures in ap (λ (m : ℕ). m + 1) (seconds_is c.args.sup.now c.args.out.now _ e.sound e.head)

pub returns-then-head-eq0 : goal.returns-then-head-eq0
returns-then-head-eq0 c =
    let e = c.in-Ok.ensures in
    mark_first c.args.sup.now c.args.out.now _ e.sound e.head e.refusal e.room _ c.if-head-eq0.true c.mark_late.ensures

pub returns-else-head-eq0 : goal.returns-else-head-eq0
returns-else-head-eq0 c =
    let e = c.in-Ok.ensures in
    mark_told c.args.sup.now c.args.out.now _ e.sound e.head e.refusal e.room _ _ _ c.if-head-eq0.false refl c.mark_late-in-Ok.ensures c.report_out.ensures

pub returns-in-Err : goal.returns-in-Err
returns-in-Err c = mark_refused_lem c.args.sup.now c.args.out.now _ _ c.in-Err.ensures.refusal c.coded.ensures
