use Rattle.bay.specs.Bay.{blank_rule}
use Rattle.bay.proofs.Chains.{Turned}
use Rattle.bay.proofs.lay_blanks.Given as goal

abbrev pub invariant-loop-i : goal.invariant-loop-i
invariant-loop-i l = Turned blank_rule l.fn.b l.i l.b
