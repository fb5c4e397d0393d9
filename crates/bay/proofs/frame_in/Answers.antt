use Rattle.std.proofs.Common.{rules}
use mathlib.Core.Path.{◌≡◌}
use native.Mathlib.Omega.{arith}
use Rattle.bay.specs.Bay.{given_rule, frame_record}
use Rattle.bay.proofs.Chains.{write_start, bay_turn, bay_done, flag_stays, record_stays}
use Rattle.bay.proofs.Given.{frame_is}
use Rattle.bay.proofs.frame_in.Goals as goal

pub loop-i-init : goal.loop-i-init
loop-i-init c = write_start _ _ _ _ _

pub loop-i-preserved : goal.loop-i-preserved
loop-i-preserved c =
    let l = c.loop-i in
    let a = c.args in
    let b = a.b.now in
    let o = a.overhead.now in
    let f = given_rule (frame_record a.ssf a.m o a.counts) b in
    let r = record_stays f b l.b l.i (search rules) (omega arith) l.invariant in
    let g = flag_stays f b l.b l.i (search rules) (omega arith) l.invariant in
    let e = frame_is b a.ssf a.m o a.counts l.i _ _ (rw (r, g) at c.one_frame.ensures) in
    bay_turn f b l.b _ l.i (search rules) (omega arith) l.invariant (omega arith) e

pub returns : goal.returns
returns c =
    let l = c.loop-i in
    let a = c.args in
    let e : l.i ≡ 6 = omega arith in
    bay_done (given_rule (frame_record a.ssf a.m a.overhead.now a.counts) a.b.now) a.b.now l.b (search rules) (rw e at l.invariant)
