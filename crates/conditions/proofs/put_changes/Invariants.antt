use Rattle.std.proofs.Common.{◌≡◌, ◌++◌, length, take}
use Rattle.conditions.specs.Conditions.{under, changes_of}
use Rattle.conditions.specs.Told.{told}
use Rattle.conditions.proofs.put_changes.Given as goal

abbrev pub invariant-loop-was : goal.invariant-loop-was
invariant-loop-was g l = l.out.items ≡ l.fn.out.items ++ changes_of (take (length l.yielded) (under l.prefix (told l.before))) (take (length l.yielded) (under l.prefix (told l.after)))
