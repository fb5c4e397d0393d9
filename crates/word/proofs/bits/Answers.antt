use Rattle.std.proofs.Common.{get_or, false, ◌-◌}
use native.Mathlib.Omega.{arith}
use Rattle.word.proofs.Flags.{flag_below, room, one_more}
use Rattle.word.proofs.bits.Goals as goal

pub overflow_mul-word : goal.overflow_mul-word
overflow_mul-word g c = let r = room _ _ _ (omega (arith, c.well_formed)) c.loop-i.invariant in omega arith

pub overflow_add-word : goal.overflow_add-word
overflow_add-word g c = let b = flag_below (get_or c.args.flags (c.loop-i.i - 1) false) in let r = room _ _ _ (omega (arith, c.well_formed)) c.loop-i.invariant in omega (arith, b, c.from.ensures)

pub loop-i-preserved : goal.loop-i-preserved
loop-i-preserved g c = one_more c.args.flags c.loop-i.i _ _ c.loop-i-test.true (omega (arith, c.well_formed)) c.from.ensures c.loop-i.invariant
