use Rattle.bay.specs.Bay.{records_of, mark_record, given_rule, five_rule}
use Rattle.bay.proofs.Chains.{Turned, Written}
use Rattle.bay.proofs.mark_in.Given as goal

abbrev pub invariant-loop-i : goal.invariant-loop-i
invariant-loop-i l = Turned (given_rule mark_record l.fn.b) l.fn.b l.i l.b × Written (five_rule l.fn.b) (records_of l.fn.b) l.initial.out 0 5 l.i l.out
