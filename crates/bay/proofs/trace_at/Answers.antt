use Rattle.std.proofs.Common.{sym, ◌∙◌}
use native.Mathlib.Omega.{arith}
use Rattle.bay.specs.Bay.{traced_in}
use Rattle.bay.proofs.Given.{passed, given_is, record_at_lem}
use Rattle.bay.proofs.trace_at.Goals as goal

pub overflow_sub-at : goal.overflow_sub-at
overflow_sub-at c =
    let g = given_is c.args.b.now c.args.n (sym c.given_at.ensures ∙ passed _ _ (sym c.in_ok-test.ensures)) in
    omega (arith, g, c.from.ensures)

pub slice_bounds-trace_in-end : goal.slice_bounds-trace_in-end
slice_bounds-trace_in-end c =
    let g = given_is c.args.b.now c.args.n (sym c.given_at.ensures ∙ passed _ _ (sym c.in_ok-test.ensures)) in
    omega (arith, g, c.from.ensures)

pub returns-clause-refusal : goal.returns-clause-refusal
unfolding traced_in
returns-clause-refusal c =
    let a = c.args in
    let e = sym c.given_at.ensures ∙ passed _ _ (sym c.in_ok-test.ensures) in
    let r = record_at_lem a.b.now a.n (given_is a.b.now a.n e).1 in
    rw e (rw (c.from.ensures, r) at c.trace_in.ensures.refusal)

pub returns-clause-ok : goal.returns-clause-ok
unfolding traced_in
returns-clause-ok c =
    let a = c.args in
    let e = sym c.given_at.ensures ∙ passed _ _ (sym c.in_ok-test.ensures) in
    let r = record_at_lem a.b.now a.n (given_is a.b.now a.n e).1 in
    rw e (rw (c.from.ensures, r) at c.trace_in.ensures.ok)
