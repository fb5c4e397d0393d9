use Rattle.std.proofs.Common.{rules}
use Prim.Native.Nat.{◌*◌}
use mathlib.Core.Path.{◌≡◌, refl}
use native.Mathlib.Omega.{arith}
use lib.ListN.{drop}
use Rattle.codec.proofs.Overs.{put_over}
use Rattle.bay.specs.Bay.{records_of, given_rule, mark_record, five_rule}
use Rattle.bay.proofs.Chains.{records_long, write_start, write_turn, flag_stays, record_stays, bay_turn, bay_done, five_done}
use Rattle.bay.proofs.mark_in.Goals as goal

pub loop-i-init : goal.loop-i-init
loop-i-init c = (write_start _ _ _ _ _, write_start _ _ _ _ _)

pub loop-i-preserved : goal.loop-i-preserved
loop-i-preserved c =
    let l = c.loop-i in
    let b = c.args.b.now in
    let f = given_rule mark_record b in
    let r = record_stays f b l.b l.i (search rules) (omega arith) l.invariant.0 in
    let g = flag_stays f b l.b l.i (search rules) (omega arith) l.invariant.0 in
    let m = c.one_mark-five.ensures in
    let t = bay_turn f b l.b _ l.i (search rules) (omega arith) l.invariant.0 (omega arith) (rw (r, g) at m.holds) in
    let w = write_turn (five_rule b) (records_of b) _ 0 5 l.out _ _ l.i (5 * l.i) (omega (arith, records_long 6 (drop 32 b))) l.invariant.1 (omega arith) (omega arith) (omega arith) (rw (r, g) at m.answers) (put_over _ _ _ (5 * l.i) _ c.put_five.ensures (omega arith)) in
    (t, w)

pub returns : goal.returns
returns c =
    let l = c.loop-i in
    let b = c.args.b.now in
    let e : l.i ≡ 6 = omega arith in
    (five_done (five_rule b) b _ l.out refl (rw e at l.invariant.1), bay_done (given_rule mark_record b) b l.b (search rules) (rw e at l.invariant.0))
