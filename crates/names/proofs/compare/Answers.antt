use Rattle.std.proofs.Common.{arith, ◌≡◌}
use Rattle.names.proofs.Counted.{of_parts}
use Rattle.names.proofs.compare.Goals as goal

pub returns : goal.returns
returns c =
    let l = c.loop-i.invariant in
    let e : c.loop-i.i ≡ 16 = omega arith in
    rw (l.sapi_so_far, l.dapi_so_far, l.alike_so_far, l.unlike_so_far, e) (of_parts _ _)
