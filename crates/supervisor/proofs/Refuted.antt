-- Answers that tempting readings give, shut out by the contracts of this crate. Assumes nothing.
use Prim.Native.Nat.{ℕ}
use mathlib.Core.Path.{◌≡◌}
use native.Mathlib.Omega.{arith}
use lib.ListN.{length}
use contract.Lifetimes.{Lfts}
use borrow.Fn.Kinds.{Dens, res_t, ended_of}
use denote.Triple.Clauses.{AtExit}
use Rattle.std.proofs.Common.{Ok}
use Rattle.answer.specs.Refusal.{said}
use Rattle.causes.specs.declared.Report.{Report}
use Rattle.settings.specs.Settings.{settings_refusal}
use Rattle.supervisor.specs.Supervisor.{provision_of, step_refusal, frame_of, mark_refusal, trace_refusal}
use Rattle.supervisor.specs.declared.Supervisor.{Supervisor}
use Rattle.supervisor.proofs.Answered.{provisioned, provision_is}
use Rattle.supervisor.proofs.Supervisor.provision.Kinds as provision_kinds
use Rattle.supervisor.proofs.Supervisor.provision.Reads as provision_reads
use Rattle.supervisor.proofs.Supervisor.frame.Kinds as frame_kinds
use Rattle.supervisor.proofs.Supervisor.frame.Reads as frame_reads
use Rattle.supervisor.proofs.Supervisor.step.Kinds as step_kinds
use Rattle.supervisor.proofs.Supervisor.step.Reads as step_reads
use Rattle.supervisor.proofs.Supervisor.mark.Kinds as mark_kinds
use Rattle.supervisor.proofs.Supervisor.mark.Reads as mark_reads
use Rattle.supervisor.proofs.Supervisor.trace.Kinds as trace_of_kinds
use Rattle.supervisor.proofs.Supervisor.trace.Reads as trace_of_reads
use Rattle.supervisor.proofs.blank.Kinds as blank_kinds
use Rattle.supervisor.proofs.blank.Reads as blank_reads

-- a provisioning with k = 4 makes no supervisor
pub four_made : (κs : Lfts 4) (a : Dens κs provision_kinds.ps) (x : Supervisor) (s : AtExit (ended_of 4 provision_kinds.ps provision_kinds.r) κs)
    → a.0 ≡ 4 → provision_reads.Post κs a (Ok x) s → ⊥
unfolding settings_refusal
four_made κs a x s four e = let h : ◌≡◌ {A = ℕ} 0 5 = simp four at ((provision_reads.post-apart κs a (Ok x) s e).refusal) in omega arith

-- in its place stands the blank supervisor, and not one with that k
pub k_kept : (κs : Lfts 4) (a : Dens κs provision_kinds.ps) (x : (res_t provision_kinds.r κs).Denot) (s : AtExit (ended_of 4 provision_kinds.ps provision_kinds.r) κs)
    → a.0 ≡ 4 → (provisioned x).supervisor.settings.k ≡ 4 → provision_reads.Post κs a x s → ⊥
unfolding provision_of settings_refusal
k_kept κs a x s four k e = let h : ◌≡◌ {A = ℕ} 1 4 = simp (provision_is κs a x s e, four) at k in omega arith

-- a frame closes no second
pub frame_closes : (κs : Lfts 2) (a : Dens κs frame_kinds.ps) (x : Report) (s : AtExit (ended_of 2 frame_kinds.ps frame_kinds.r) κs)
    → a.0.now.seconds ≡ 0 → s.0.now.seconds ≡ 1 → frame_reads.Post κs a x s → ⊥
unfolding frame_of
frame_closes κs a x s zero one e = let h : ◌≡◌ {A = ℕ} 0 1 = simp ((frame_reads.post-apart κs a x s e).next, zero) at one in omega arith

-- bad flags in a full second are 2: the tests go in the order of their numbers
pub full_before_flags : (κs : Lfts 2) (a : Dens κs step_kinds.ps) (x : (res_t step_kinds.r κs).Denot) (s : AtExit (ended_of 2 step_kinds.ps step_kinds.r) κs)
    → length a.1.0.now ≡ 64 → a.1.1.0 ≡ 4 → a.0.now.second.frames.0 ≡ 400000 → said x ≡ 4 → step_reads.Post κs a x s → ⊥
unfolding step_refusal
full_before_flags κs a x s bytes flags full four e =
    let h : ◌≡◌ {A = ℕ} 2 4 = simp ((step_reads.post-apart κs a x s e).refusal, bytes, flags) at four in omega arith

-- a second that holds 400,000 frames takes no other
pub one_too_many : (κs : Lfts 2) (a : Dens κs step_kinds.ps) (x : (res_t step_kinds.r κs).Denot) (s : AtExit (ended_of 2 step_kinds.ps step_kinds.r) κs)
    → length a.1.0.now ≡ 64 → a.1.1.0 ≡ 0 → a.1.1.1.0 ≡ 0 → a.1.1.1.1.0 ≡ 0 → a.0.now.second.frames.0 ≡ 400000 → said x ≡ 0
    → step_reads.Post κs a x s → ⊥
unfolding step_refusal
one_too_many κs a x s bytes flags sm pm full zero e =
    let h : ◌≡◌ {A = ℕ} 4 0 = simp ((step_reads.post-apart κs a x s e).refusal, bytes, flags, sm, pm, full) at zero in omega arith

-- a mark is refused at 4,294,967,295 seconds
pub mark_late : (κs : Lfts 1) (a : Dens κs mark_kinds.ps) (x : (res_t mark_kinds.r κs).Denot) (s : AtExit (ended_of 1 mark_kinds.ps mark_kinds.r) κs)
    → a.0.now.seconds ≡ 4294967295 → said x ≡ 0 → mark_reads.Post κs a x s → ⊥
unfolding mark_refusal
mark_late κs a x s last zero e = let h : ◌≡◌ {A = ℕ} 4 0 = simp ((mark_reads.post-apart κs a x s e).refusal, last) at zero in omega arith

-- and not one second before
pub mark_early : (κs : Lfts 1) (a : Dens κs mark_kinds.ps) (x : (res_t mark_kinds.r κs).Denot) (s : AtExit (ended_of 1 mark_kinds.ps mark_kinds.r) κs)
    → a.0.now.seconds ≡ 4294967294 → said x ≡ 4 → mark_reads.Post κs a x s → ⊥
unfolding mark_refusal
mark_early κs a x s last four e = let h : ◌≡◌ {A = ℕ} 0 4 = simp ((mark_reads.post-apart κs a x s e).refusal, last) at four in omega arith

-- there is no layer 2
pub layer_two : (κs : Lfts 1) (a : Dens κs trace_of_kinds.ps) (x : (res_t trace_of_kinds.r κs).Denot) (s : AtExit (ended_of 1 trace_of_kinds.ps trace_of_kinds.r) κs)
    → a.1.0 ≡ 2 → said x ≡ 0 → trace_of_reads.Post κs a x s → ⊥
unfolding trace_refusal
layer_two κs a x s two zero e = let h : ◌≡◌ {A = ℕ} 11 0 = simp ((trace_of_reads.post-apart κs a x s e).refusal, two) at zero in omega arith

-- the blank supervisor has the DEGM promised
pub blank_degm : (κs : Lfts 0) (a : Dens κs blank_kinds.ps) (x : Supervisor) (s : AtExit (ended_of 0 blank_kinds.ps blank_kinds.r) κs)
    → x.settings.section.degm ≡ 3 → blank_reads.Post κs a x s → ⊥
blank_degm κs a x s three e = let h : ◌≡◌ {A = ℕ} 2 3 = rw e at three in omega arith
