use Rattle.std.proofs.Common.{◌≡◌, take}
use Rattle.answer.specs.Over.{over}
use Rattle.place.proofs.put_strip.Given as goal

abbrev pub invariant-loop-i : goal.invariant-loop-i
invariant-loop-i l = l.b ≡ over l.fn.b l.at (take l.i l.strip)
