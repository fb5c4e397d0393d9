use borrow.Author.Tests.{eq-eqb}
use native.Mathlib.Omega.{arith}
use Rattle.codec.proofs.Overs.{bytes_room}
use Rattle.bay.specs.Bay.{bay_sound}
use Rattle.bay.proofs.is_bay.Goals as goal

pub returns-in-Some : goal.returns-in-Some
unfolding bay_sound
returns-in-Some c =
    let whole = c.in-Some.ensures.cases in
    let w = bytes_room 32 0 c.args.b.now (omega (arith, whole.long)) in
    rw (eq-eqb _ _ whole.long, c.are_sound.ensures, c.is_below-strip.ensures, c.array_in.ensures, whole.same, w)
