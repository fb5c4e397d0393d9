-- Answers that tempting readings give, shut out by the contracts of this crate. Assumes nothing.
use Prim.Native.Nat.{ℕ}
use mathlib.Core.Path.{◌≡◌}
use mathlib.Core.Bool.{true, false, true≢false}
use mathlib.Core.List.{List}
use native.Mathlib.Omega.{arith}
use lib.ListN.{get_or}
use contract.Lifetimes.{Lfts}
use borrow.Fn.Kinds.{Dens, ended_of}
use denote.Triple.Clauses.{AtExit}
use Rattle.overhead.specs.Overhead.{far_block}
use Rattle.overhead.specs.Bei.{path_bei, bei_of}
use Rattle.causes.specs.Causes.{ssf_of}
use Rattle.answer.specs.Answer.{NoAnswer}
use Rattle.filter.specs.Filter.{up_of, add_of}
use Rattle.overhead.specs.declared.Bei.TheVariants.{Number}
use Rattle.second.specs.Second.{near_of, far_of, sum_of, counted_of, blocks_of, count_of, discard_of, closed_of}
use Rattle.second.specs.declared.Blocks.{Blocks}
use Rattle.second.specs.declared.Second.{Second}
use Rattle.second.proofs.counted.Kinds as counted_kinds
use Rattle.second.proofs.counted.Reads as counted_reads
use Rattle.second.proofs.Blocks.step.Kinds as blocks_step_kinds
use Rattle.second.proofs.Blocks.step.Reads as blocks_step_reads
use Rattle.second.proofs.Second.count.Kinds as count_kinds
use Rattle.second.proofs.Second.count.Reads as count_reads
use Rattle.second.proofs.discard.Kinds as discard_kinds
use Rattle.second.proofs.discard.Reads as discard_reads
use Rattle.second.proofs.closed.Kinds as closed_kinds
use Rattle.second.proofs.closed.Reads as closed_reads
use Rattle.second.proofs.figures.Kinds as figures_kinds
use Rattle.second.proofs.figures.Reads as figures_reads
use Rattle.second.proofs.fresh_second.Kinds as fresh_second_kinds
use Rattle.second.proofs.fresh_second.Reads as fresh_second_reads

-- violations are not counted where counting is stopped
pub stopped_added : NoAnswer counted_kinds.ps counted_kinds.r counted_reads.Post (Number 8, (true, tt)) 8
unfolding counted_of
stopped_added s e = let h : ◌≡◌ {A = ℕ} 8 0 = e in omega arith

-- the sum grows by the number, and not by one
pub one_for_eight : (κs : Lfts 2) (a : Dens κs blocks_step_kinds.ps) (s : AtExit (ended_of 2 blocks_step_kinds.ps blocks_step_kinds.r) κs)
    → a.0.now.sum.0 ≡ 0 → a.1.0.now.far ≡ Number 8 → a.1.0.now.stopped ≡ false → s.0.now.sum.0 ≡ 1 → blocks_step_reads.Post κs a tt s → ⊥
unfolding blocks_of sum_of counted_of add_of
one_for_eight κs a s zero shown goes sum e = let h : ◌≡◌ {A = ℕ} 8 1 = simp (e, shown, goes, zero) at sum in omega arith

-- a block is not counted where counting is stopped
pub stopped_counted : (κs : Lfts 2) (a : Dens κs blocks_step_kinds.ps) (s : AtExit (ended_of 2 blocks_step_kinds.ps blocks_step_kinds.r) κs)
    → a.0.now.near.0 ≡ 0 → a.1.0.now.near ≡ true → a.1.0.now.stopped ≡ true → s.0.now.near.0 ≡ 1 → blocks_step_reads.Post κs a tt s → ⊥
unfolding blocks_of near_of
stopped_counted κs a s zero shown stopped near e = let h : ◌≡◌ {A = ℕ} 0 1 = simp (e, shown, stopped, zero) at near in omega arith

-- DS is raised also where counting is stopped
pub stopped_no_ds : (κs : Lfts 2) (a : Dens κs blocks_step_kinds.ps) (s : AtExit (ended_of 2 blocks_step_kinds.ps blocks_step_kinds.r) κs)
    → a.0.now.neards ≡ false → a.1.0.now.neards ≡ true → a.1.0.now.stopped ≡ true → s.0.now.neards ≡ false → blocks_step_reads.Post κs a tt s → ⊥
unfolding blocks_of
stopped_no_ds κs a s before shown stopped off e = let h : true ≡ false = simp (e, before, shown) at off in true≢false h

-- a near block is not counted in a frame in which SSF stands
pub counted_under_ssf : (κs : Lfts 3) (a : Dens κs count_kinds.ps) (s : AtExit (ended_of 3 count_kinds.ps count_kinds.r) κs)
    → a.0.now.section.near.0 ≡ 0 → ssf_of a.1.0.now.line ≡ true → a.1.1.1.0 ≡ 1 → s.0.now.section.near.0 ≡ 1 → count_reads.Post κs a tt s → ⊥
unfolding count_of blocks_of near_of
counted_under_ssf κs a s zero ssf one near e = let h : ◌≡◌ {A = ℕ} 0 1 = simp (e, ssf, one, zero) at near in omega arith

-- OOF alone stops no count
pub oof_stops : (κs : Lfts 3) (a : Dens κs count_kinds.ps) (s : AtExit (ended_of 3 count_kinds.ps count_kinds.r) κs)
    → a.0.now.section.near.0 ≡ 0 → ssf_of a.1.0.now.line ≡ false → a.1.0.now.line.inframe ≡ false → a.1.1.1.0 ≡ 1 → s.0.now.section.near.0 ≡ 0
    → count_reads.Post κs a tt s → ⊥
unfolding count_of blocks_of near_of up_of
oof_stops κs a s zero ssf oof one near e = let h : ◌≡◌ {A = ℕ} 1 0 = simp (e, ssf, one, zero) at near in omega arith

-- BEI 9 is no far-end block
pub nine_counted : (κs : Lfts 3) (a : Dens κs count_kinds.ps) (s : AtExit (ended_of 3 count_kinds.ps count_kinds.r) κs)
    → a.0.now.section.far.0 ≡ 0 → a.1.1.0.now.section.bei ≡ 9 → s.0.now.section.far.0 ≡ 1 → count_reads.Post κs a tt s → ⊥
unfolding count_of blocks_of far_of far_block path_bei bei_of
nine_counted κs a s zero nine far e = let h : ◌≡◌ {A = ℕ} 0 1 = simp (e, nine, zero) at far in omega arith

-- 1011 is not eleven violations
pub eleven_added : (κs : Lfts 3) (a : Dens κs count_kinds.ps) (s : AtExit (ended_of 3 count_kinds.ps count_kinds.r) κs)
    → a.0.now.section.sum.0 ≡ 0 → ssf_of a.1.0.now.line ≡ false → a.1.1.0.now.section.bei ≡ 11 → s.0.now.section.sum.0 ≡ 11 → count_reads.Post κs a tt s → ⊥
unfolding count_of blocks_of sum_of counted_of add_of far_block path_bei bei_of
eleven_added κs a s zero ssf eleven sum e = let h : ◌≡◌ {A = ℕ} 0 11 = simp (e, ssf, eleven, zero) at sum in omega arith

-- dIAE discards the near values too
pub iae_keeps_near : (κs : Lfts 0) (a : Dens κs discard_kinds.ps) (x : Blocks) (s : AtExit (ended_of 0 discard_kinds.ps discard_kinds.r) κs)
    → a.0.near.0 ≡ 1 → a.1.0 ≡ true → x.near.0 ≡ 1 → discard_reads.Post κs a x s → ⊥
unfolding discard_of
iae_keeps_near κs a x s one iae near e = let h : ◌≡◌ {A = ℕ} 0 1 = simp (e, iae) at near in omega arith

-- dBIAE alone does not discard them
pub biae_takes_near : (κs : Lfts 0) (a : Dens κs discard_kinds.ps) (x : Blocks) (s : AtExit (ended_of 0 discard_kinds.ps discard_kinds.r) κs)
    → a.0.near.0 ≡ 1 → a.1.0 ≡ false → a.1.1.0 ≡ true → x.near.0 ≡ 0 → discard_reads.Post κs a x s → ⊥
unfolding discard_of
biae_takes_near κs a x s one iae biae near e = let h : ◌≡◌ {A = ℕ} 1 0 = simp (e, iae, one) at near in omega arith

-- a second in which dBIAE stood loses its far values
pub biae_keeps_far : (κs : Lfts 0) (a : Dens κs closed_kinds.ps) (x : Second) (s : AtExit (ended_of 0 closed_kinds.ps closed_kinds.r) κs)
    → a.0.iae ≡ false → a.0.biae ≡ true → a.0.section.far.0 ≡ 1 → x.section.far.0 ≡ 1 → closed_reads.Post κs a x s → ⊥
unfolding closed_of discard_of
biae_keeps_far κs a x s iae biae one far e = let h : ◌≡◌ {A = ℕ} 0 1 = simp (e, iae, biae) at far in omega arith

-- and its sum
pub biae_keeps_sum : (κs : Lfts 0) (a : Dens κs closed_kinds.ps) (x : Second) (s : AtExit (ended_of 0 closed_kinds.ps closed_kinds.r) κs)
    → a.0.iae ≡ false → a.0.biae ≡ true → a.0.section.sum.0 ≡ 1 → x.section.sum.0 ≡ 1 → closed_reads.Post κs a x s → ⊥
unfolding closed_of discard_of
biae_keeps_sum κs a x s iae biae one sum e = let h : ◌≡◌ {A = ℕ} 0 1 = simp (e, iae, biae) at sum in omega arith

-- near before far
pub far_before_near : (κs : Lfts 0) (a : Dens κs figures_kinds.ps) (x : List ℕ) (s : AtExit (ended_of 0 figures_kinds.ps figures_kinds.r) κs)
    → a.1.0.section.near.0 ≡ 1 → a.1.0.section.far.0 ≡ 2 → get_or x 12 0 ≡ 2 → figures_reads.Post κs a x s → ⊥
far_before_near κs a x s near far two e = let h : ◌≡◌ {A = ℕ} 1 2 = simp (e, near) at two in omega arith

-- a second opens with no frame under clear
pub opens_with_one : (κs : Lfts 0) (a : Dens κs fresh_second_kinds.ps) (x : Second) (s : AtExit (ended_of 0 fresh_second_kinds.ps fresh_second_kinds.r) κs)
    → get_or x.heads 0 0 ≡ 1 → fresh_second_reads.Post κs a x s → ⊥
opens_with_one κs a x s one e = let h : ◌≡◌ {A = ℕ} 0 1 = rw e at one in omega arith
