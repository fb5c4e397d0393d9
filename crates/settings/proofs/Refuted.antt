-- Answers that tempting readings give, shut out by the contracts of this crate. Assumes nothing.
use Prim.Native.Nat.{ℕ}
use mathlib.Core.Path.{◌≡◌}
use mathlib.Core.Bool.{false, true≢false}
use native.Mathlib.Omega.{arith}
use contract.Lifetimes.{Lfts}
use borrow.Fn.Kinds.{Dens, ended_of}
use denote.Triple.Clauses.{AtExit}
use Rattle.std.proofs.Common.{Ok, Err}
use Rattle.answer.specs.declared.Refusal.TheVariants.{DegThreshold}
use Rattle.settings.specs.Settings.{settings_refusal, thr_good, ceiling_of}
use Rattle.settings.specs.declared.Options.{Options}
use Rattle.settings.proofs.accepted.Kinds as accepted_kinds
use Rattle.settings.proofs.accepted.Reads as accepted_reads
use Rattle.settings.proofs.options_of.Kinds as options_of_kinds
use Rattle.settings.proofs.options_of.Reads as options_of_reads

-- DEGThr 20,421 for k = 1 is not accepted: 20,420 is the greatest
pub thr_above : (κs : Lfts 4) (a : Dens κs accepted_kinds.ps) (s : AtExit (ended_of 4 accepted_kinds.ps accepted_kinds.r) κs)
    → a.0 ≡ 1 → a.1.0.now.thr ≡ 20421 → accepted_reads.Post κs a (Ok tt) s → ⊥
unfolding settings_refusal thr_good ceiling_of
thr_above κs a s k thr e = let h : ◌≡◌ {A = ℕ} 0 6 = rw (k, thr) at e in omega arith

-- with k = 4 and DEGThr 0 the refusal is 5 and not 6: the tests go in the order of their numbers
pub six_before_five : (κs : Lfts 4) (a : Dens κs accepted_kinds.ps) (s : AtExit (ended_of 4 accepted_kinds.ps accepted_kinds.r) κs)
    → a.0 ≡ 4 → accepted_reads.Post κs a (Err DegThreshold) s → ⊥
unfolding settings_refusal
six_before_five κs a s k e = let h : ◌≡◌ {A = ℕ} 6 5 = rw k at e in omega arith

-- TIMActDis 2 is the default, and the default is disabled
pub two_acts : (κs : Lfts 1) (a : Dens κs options_of_kinds.ps) (x : Options) (s : AtExit (ended_of 1 options_of_kinds.ps options_of_kinds.r) κs)
    → a.0.now.dis ≡ 2 → x.disabled ≡ false → options_of_reads.Post κs a x s → ⊥
two_acts κs a x s two off e = true≢false (rw (e, two) at off)

-- TIMActDis 1 disables
pub one_acts : (κs : Lfts 1) (a : Dens κs options_of_kinds.ps) (x : Options) (s : AtExit (ended_of 1 options_of_kinds.ps options_of_kinds.r) κs)
    → a.0.now.dis ≡ 1 → x.disabled ≡ false → options_of_reads.Post κs a x s → ⊥
one_acts κs a x s one off e = true≢false (rw (e, one) at off)
