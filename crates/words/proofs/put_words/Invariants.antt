use Rattle.std.proofs.Common.{◌≡◌, take}
use Rattle.answer.specs.Over.{over}
use Rattle.words.specs.Words.{flat}
use Rattle.words.proofs.put_words.Given as goal

abbrev pub invariant-loop-i : goal.invariant-loop-i
invariant-loop-i l = l.b ≡ over l.fn.b l.at (flat (take l.i l.w))
