use borrow.Author.Tests.{eq-eqb, le-leb, lt-leb}
use Rattle.bay.specs.Bay.{gave_in}
use Rattle.bay.proofs.give_at.Goals as goal

pub returns-in-Some : goal.returns-in-Some
unfolding gave_in
returns-in-Some c =
    let a = c.args in
    let whole = c.in-Some.ensures.cases in
    rw (eq-eqb _ _ whole.long, le-leb 1 a.n c.if-n-ge1.true, le-leb a.n 6 c.if-n-le6.true) (rw (whole.same, c.from.ensures) at c.give_in.ensures)

pub returns-else-n-ge1 : goal.returns-else-n-ge1
unfolding gave_in
returns-else-n-ge1 c =
    let whole = c.in-Some.ensures.cases in
    rw (eq-eqb _ _ whole.long, lt-leb 1 c.args.n c.if-n-ge1.false, whole.same)
