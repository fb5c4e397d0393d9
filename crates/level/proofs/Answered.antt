-- The two clauses of a level's frame say neither more nor less than level_frame. Assumes nothing.
use Rattle.std.proofs.Common.{◌≡◌, ap, ◌∙◌}
use contract.Lifetimes.{Lfts}
use borrow.Fn.Kinds.{Dens, ended_of}
use denote.Triple.Clauses.{AtExit}
use Rattle.level.specs.Level.{level_of, level_stands, LevelFrame, level_frame}
use Rattle.level.specs.declared.LevelState.{LevelState}
use Rattle.level.specs.declared.LevelStands.{LevelStands}
use Rattle.level.proofs.LevelState.step.Kinds as step_kinds
use Rattle.level.proofs.LevelState.step.Reads as step_reads

abbrev pub level_framed : LevelStands → LevelState → LevelFrame
level_framed d l = record { state = l; stands = d }

module _ (κs : Lfts 4) (a : Dens κs step_kinds.ps) (x : LevelStands) (s : AtExit (ended_of 4 step_kinds.ps step_kinds.r) κs) (e : step_reads.Post κs a x s) where
  -- the level after the frame, and what stands there
  pub next : s.0.now ≡ level_of a.0.now a.1.0.now a.1.1.0 a.1.1.1.0.now a.1.1.1.1.0.now
  next = (step_reads.post-apart κs a x s e).state

  pub stood : x ≡ (level_frame a.0.now a.1.0.now a.1.1.0 a.1.1.1.0.now a.1.1.1.1.0.now).stands
  stood = (step_reads.post-apart κs a x s e).stands ∙ ap (λ (l : LevelState). level_stands l a.1.0.now a.1.1.0) next

  pub level_step_is : level_framed x s.0.now ≡ level_frame a.0.now a.1.0.now a.1.1.0 a.1.1.1.0.now a.1.1.1.1.0.now
  level_step_is = rw (next, stood)
