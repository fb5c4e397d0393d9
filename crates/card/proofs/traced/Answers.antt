use mathlib.Core.Path.{sym, ◌∙◌}
use Rattle.bay.proofs.Given.{passed}
use Rattle.card.specs.Calls.{trace_refused}
use Rattle.card.proofs.Calls.{trace_known}
use Rattle.card.proofs.traced.Goals as goal

pub returns-then-state-clause-refusal : goal.returns-then-state-clause-refusal
unfolding trace_refused
returns-then-state-clause-refusal c =
    let b = c.in_ok-tested.ensures.sound in
    let l = passed _ _ (sym c.in_ok-test.ensures) in
    let o = passed _ _ (sym c.in_ok-test-2.ensures) in
    let k = trace_known c.args.sup.now b c.args.layer _ _ c.record_at-at.ensures.0 (rw c.array_in.ensures at c.state_in-state.ensures) ∙ c.if-state.true in
    rw (b, l, o, k)

pub returns-clause-refusal : goal.returns-clause-refusal
unfolding trace_refused
returns-clause-refusal c =
    let b = c.in_ok-tested.ensures.sound in
    let l = passed _ _ (sym c.in_ok-test.ensures) in
    let o = passed _ _ (sym c.in_ok-test-2.ensures) in
    let k = trace_known c.args.sup.now b c.args.layer _ _ c.record_at-at.ensures.0 (rw c.array_in.ensures at c.state_in-state.ensures) ∙ c.if-state.false in
    rw (b, l, o, k)
