use Rattle.reading.specs.Turn.{refilled_as}
use Rattle.reading.proofs.Refills.{nearer, not_true}
use Rattle.reading.proofs.Reading.pump.Goals as goal

pub loop-r-smaller : goal.loop-r-smaller
loop-r-smaller g c =
    let l = c.loop-r in
    let e = not_true l.r.ended c.loop-r-test.true in
    nearer (refilled_as l.r l.self) (refilled_as c.refill-r.result c.refill-r.new.self) l.invariant.sound (l.invariant.few e) e c.refill-r.ensures.further
