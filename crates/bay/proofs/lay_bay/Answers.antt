use borrow.Author.Tests.{eq-eqb}
use Rattle.bay.specs.Bay.{blank_bay}
use Rattle.bay.proofs.Fresh.{blank_laid}
use Rattle.bay.proofs.lay_bay.Goals as goal

pub returns-in-Some : goal.returns-in-Some
unfolding blank_bay
returns-in-Some c =
    let whole = c.in-Some.ensures.cases in
    rw (eq-eqb _ _ whole.long) (blank_laid c.args.b.now _ _ whole.long (rw whole.same at c.lay_bytes.ensures) c.lay_blanks.ensures)
