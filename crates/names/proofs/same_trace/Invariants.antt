use Rattle.std.proofs.Common.{◌≡◌, length}
use Rattle.names.specs.Names.{same_in}
use Rattle.names.proofs.same_trace.Given as goal

abbrev pub invariant-loop-x : goal.invariant-loop-x
invariant-loop-x l = l.same ≡ same_in (length l.yielded) 0 l.a l.b
