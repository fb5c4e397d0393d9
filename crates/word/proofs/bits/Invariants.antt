use Rattle.word.proofs.Flags.{Packed}
use Rattle.word.proofs.bits.Given as goal

abbrev pub invariant-loop-i : goal.invariant-loop-i
invariant-loop-i g l = Packed l.flags l.i l.word
