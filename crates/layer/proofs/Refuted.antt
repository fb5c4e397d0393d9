-- Wrong answers that the contracts shut out, each for one input. Assumes nothing.
use mathlib.Core.Path.{◌≡◌}
use mathlib.Core.Bool.{true, false, true≢false, false≢true}
use contract.Lifetimes.{Lfts}
use borrow.Fn.Kinds.{Dens, ended_of}
use denote.Triple.Clauses.{AtExit}
use Rattle.filter.specs.Filter.{up_of, filter_of}
use Rattle.layer.specs.Layer.{byte_of, trace_of, layer_of, tim_of}
use Rattle.layer.proofs.Layer.step.Kinds as step_kinds
use Rattle.layer.proofs.Layer.step.Reads as step_reads
use Rattle.layer.proofs.Cycle.step.Kinds as cycle_kinds
use Rattle.layer.proofs.Cycle.step.Reads as cycle_reads
use Rattle.layer.proofs.tim_in.Kinds as tim_in_kinds
use Rattle.layer.proofs.tim_in.Reads as tim_in_reads
use Rattle.layer.proofs.Layer.tim.Kinds as tim_kinds
use Rattle.layer.proofs.Layer.tim.Reads as tim_reads

module _ (κs : Lfts 1) (a : Dens κs step_kinds.ps) (s : AtExit (ended_of 1 step_kinds.ps step_kinds.r) κs) where
  -- step: a half cycle is forgotten with the trace
  pub half_cycle_kept : a.1.0 ≡ true → s.0.now.gathering ≡ true → step_reads.Post κs a tt s → ⊥
  unfolding layer_of trace_of
  half_cycle_kept f g e = let h : false ≡ true = simp (e, f) at g in false≢true h

  -- step: OOM drops the cycle and the run, not the accepted trace
  pub oom_drops_accepted : a.0.now.known ≡ true → a.1.0 ≡ false → a.1.1.0 ≡ false → s.0.now.known ≡ false → step_reads.Post κs a tt s → ⊥
  unfolding layer_of trace_of
  oom_drops_accepted k f i u e = let h : true ≡ false = simp (e, k, f, i) at u in true≢false h

  -- step: a cycle is not whole at byte 62
  pub cycle_of_63 : a.0.now.gathering ≡ true → a.1.0 ≡ false → a.1.1.0 ≡ true → a.1.1.1.0 ≡ 62 → s.0.now.gathering ≡ false
      → step_reads.Post κs a tt s → ⊥
  unfolding layer_of trace_of byte_of
  cycle_of_63 g f i n u e = let h : true ≡ false = simp (e, g, f, i, n) at u in true≢false h

  -- step: the fourth BDI 1 in a row does not raise dBDI
  pub bdi_four : a.0.now.bdi ≡ record { on = false; run = 3 } → a.1.0 ≡ false → a.1.1.1.1.1.0 ≡ true → s.0.now.bdi.on ≡ true
      → step_reads.Post κs a tt s → ⊥
  unfolding layer_of filter_of up_of
  bdi_four b f one u e = let h : false ≡ true = simp (e, b, f, one) at u in false≢true h

-- tim: mode 0 is off
pub mode_0 : (κs : Lfts 2) (a : Dens κs tim_kinds.ps) (s : AtExit (ended_of 2 tim_kinds.ps tim_kinds.r) κs)
    → a.0.now.known ≡ true → a.1.0 ≡ 0 → tim_reads.Post κs a true s → ⊥
unfolding tim_of
mode_0 κs a s k m e = let h : true ≡ false = simp (k, m) at e in true≢false h

-- tim_in: nor is there a dTIM where no trace is accepted
pub none_differs : (κs : Lfts 2) (a : Dens κs tim_in_kinds.ps) (s : AtExit (ended_of 2 tim_in_kinds.ps tim_in_kinds.r) κs)
    → a.0 ≡ false → tim_in_reads.Post κs a true s → ⊥
none_differs κs a s k e = let h : true ≡ false = simp k at e in true≢false h

-- Cycle.step: a half cycle is forgotten with the trace, and with it the run
pub half_run_kept : (κs : Lfts 4) (a : Dens κs cycle_kinds.ps) (s : AtExit (ended_of 4 cycle_kinds.ps cycle_kinds.r) κs)
    → a.1.1.1.1.0 ≡ true → s.0.now.gathering ≡ true → cycle_reads.Post κs a tt s → ⊥
half_run_kept κs a s f g e = let h : false ≡ true = simp ((cycle_reads.post-apart κs a tt s e).cycle, f) at g in false≢true h
