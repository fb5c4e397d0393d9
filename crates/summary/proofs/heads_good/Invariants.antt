use Rattle.std.proofs.Common.{◌≡◌}
use Rattle.summary.proofs.Heads.{good_to}
use Rattle.summary.proofs.heads_good.Given as goal

abbrev pub invariant-loop-x : goal.invariant-loop-x
invariant-loop-x l = l.good ≡ good_to l.h l.most l.x-index
