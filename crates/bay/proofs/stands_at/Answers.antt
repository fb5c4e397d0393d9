use mathlib.Core.Path.{sym, ◌∙◌}
use native.Mathlib.Omega.{arith}
use Rattle.bay.specs.Bay.{stands_in}
use Rattle.bay.proofs.Given.{given_is, record_at_lem}
use Rattle.bay.proofs.stands_at.Goals as goal

pub overflow_sub-at : goal.overflow_sub-at
overflow_sub-at c =
    let a = c.args in
    let g = given_is a.b.now a.n (sym c.given_at.ensures ∙ c.if-given_at.true) in
    omega (arith, g)

pub slice_bounds-stood_in-end : goal.slice_bounds-stood_in-end
slice_bounds-stood_in-end c =
    let a = c.args in
    let g = given_is a.b.now a.n (sym c.given_at.ensures ∙ c.if-given_at.true) in
    omega (arith, g)

pub returns-then-given_at : goal.returns-then-given_at
unfolding stands_in
returns-then-given_at c =
    let a = c.args in
    let e = sym c.given_at.ensures ∙ c.if-given_at.true in
    let r = record_at_lem a.b.now a.n (given_is a.b.now a.n e).1 in
    rw e (rw (c.from.ensures, r) at c.stood_in.ensures)
