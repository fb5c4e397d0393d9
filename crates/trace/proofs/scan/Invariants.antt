use Rattle.std.proofs.Common.{◌≡◌, ◌-◌, ◌≤◌, length}
use Rattle.trace.specs.Scan.{run_of}
use Rattle.trace.proofs.scan.Given as goal

abbrev pub invariant-loop-at : goal.invariant-loop-at
invariant-loop-at l = record {
  same : run_of l.tell l.s l.initial.at l.initial.frames l.fn.st ≡ run_of l.tell l.s l.at l.frames l.st;
  few : l.frames ≤ l.at;
}

abbrev pub decreases-loop-at : goal.decreases-loop-at
decreases-loop-at l = length l.s - l.at
