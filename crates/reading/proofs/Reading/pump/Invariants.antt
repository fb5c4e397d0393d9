use Rattle.std.proofs.Common.{◌≡◌, ◌<◌, ◌+◌, false}
use Rattle.reading.proofs.Refills.{to_go}
use Rattle.reading.specs.Turn.{Sound}
use Rattle.reading.proofs.Reading.pump.Given as goal

abbrev pub invariant-loop-r : goal.invariant-loop-r
invariant-loop-r g l = record {
  sound : Sound l.self;
  few : l.r.ended ≡ false → l.r.held < 83;
}

abbrev pub decreases-loop-r : goal.decreases-loop-r
decreases-loop-r g l = to_go l.r.ended (l.self.at + l.r.held)
