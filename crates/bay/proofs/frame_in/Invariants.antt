use Rattle.bay.specs.Bay.{frame_record, given_rule}
use Rattle.bay.proofs.Chains.{Turned}
use Rattle.bay.proofs.frame_in.Given as goal

abbrev pub invariant-loop-i : goal.invariant-loop-i
invariant-loop-i l = Turned (given_rule (frame_record l.ssf l.m l.overhead l.counts) l.fn.b) l.fn.b l.i l.b
