use borrow.Author.Tests.{eq-eqb, ne_eqb}
use Rattle.bay.specs.Bay.{marked_in, figures_in}
use Rattle.bay.proofs.mark_at.Goals as goal

pub returns-in-Some : goal.returns-in-Some
unfolding marked_in figures_in
returns-in-Some c =
    let whole = c.in-Some.ensures.cases in
    let t = eq-eqb _ _ whole.long in
    let m = rw whole.same at c.mark_in.ensures in
    record { answers = rw t m.0; holds = rw t m.1 }

pub returns-in-None : goal.returns-in-None
unfolding marked_in figures_in
returns-in-None c =
    let t = ne_eqb _ _ c.in-None.ensures.cases in
    record { answers = rw t; holds = rw t }
