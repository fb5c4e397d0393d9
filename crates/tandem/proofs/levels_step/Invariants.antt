use Rattle.std.proofs.Common.{◌≡◌, length, take}
use Rattle.answer.specs.Each.{each_from}
use Rattle.tandem.specs.Levels.{frame_rule}
use Rattle.tandem.specs.Tandem.{level_shown}
use Rattle.tandem.proofs.Turns.{SoFar}
use Rattle.tandem.proofs.levels_step.Given as goal

abbrev pub invariant-loop-i : goal.invariant-loop-i
invariant-loop-i l = record {
  levels : SoFar (frame_rule l.ssf l.m l.overhead l.counts) l.fn.levels l.levels l.i;
  size : length l.stands ≡ 6;
  stands : take l.i l.stands ≡ take l.i (each_from (λ n x. level_shown (frame_rule l.ssf l.m l.overhead l.counts n x) l.ssf) 1 l.fn.levels);
}
