use Rattle.std.proofs.Common.{◌≡◌, take}
use Rattle.answer.specs.Over.{over}
use Rattle.words.specs.Words.{flat8}
use Rattle.words.proofs.put_numbers.Given as goal

abbrev pub invariant-loop-i : goal.invariant-loop-i
invariant-loop-i l = l.b ≡ over l.fn.b 0 (flat8 (take l.i l.v))
