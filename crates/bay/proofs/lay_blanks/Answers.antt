use Rattle.std.proofs.Common.{rules}
use mathlib.Core.Path.{◌≡◌}
use native.Mathlib.Omega.{arith}
use Rattle.bay.specs.Bay.{blank_rule}
use Rattle.bay.proofs.Chains.{write_start, bay_turn, bay_done}
use Rattle.bay.proofs.lay_blanks.Goals as goal

pub loop-i-init : goal.loop-i-init
loop-i-init c = write_start _ _ _ _ _

pub loop-i-preserved : goal.loop-i-preserved
loop-i-preserved c =
    let l = c.loop-i in
    bay_turn blank_rule c.args.b.now l.b _ l.i (search rules) (omega arith) l.invariant (omega arith) c.lay_fresh.ensures

pub returns : goal.returns
returns c =
    let l = c.loop-i in
    let e : l.i ≡ 6 = omega arith in
    bay_done blank_rule c.args.b.now l.b (search rules) (rw e at l.invariant)
