use mathlib.Core.Path.{sym, ◌∙◌}
use Rattle.bay.proofs.Given.{passed}
use Rattle.card.specs.Calls.{level_trace_refused}
use Rattle.card.proofs.Calls.{level_trace_known}
use Rattle.card.proofs.level_traced.Goals as goal

pub returns-clause-refusal : goal.returns-clause-refusal
unfolding level_trace_refused
returns-clause-refusal c =
    let b = c.in_ok-tested.ensures.sound in
    let e = passed _ _ (sym c.in_ok-test.ensures) in
    rw (b, e) (c.trace_at.ensures.refusal ∙ sym (level_trace_known c.args.sup.now c.args.level b))
