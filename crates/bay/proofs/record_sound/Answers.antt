use native.Mathlib.Omega.{arith}
use mathlib.Core.Path.{sym, ◌∙◌}
use Rattle.bay.proofs.Fresh.{blank_sound}
use Rattle.bay.proofs.record_sound.Goals as goal

pub returns-then-is_blank : goal.returns-then-is_blank
returns-then-is_blank c =
    let a = c.args in
    c.if-is_blank.true ∙ sym (blank_sound _ a.given (omega arith) (sym c.is_blank.ensures ∙ c.if-is_blank.true))
