-- Answers that tempting readings give, shut out by the contracts of this crate. Assumes nothing.
use Prim.Native.Nat.{ℕ}
use mathlib.Core.Path.{◌≡◌, sym}
use mathlib.Core.Bool.{true, false, true≢false}
use native.Mathlib.Omega.{arith}
use contract.Lifetimes.{Lfts}
use borrow.Fn.Kinds.{Dens, ended_of}
use denote.Triple.Clauses.{AtExit}
use Rattle.signal.specs.declared.Signal.TheVariants.{Clear}
use Rattle.causes.specs.Causes.{ssf_of, tim_acts, head_of, report_of, no_report}
use Rattle.causes.specs.declared.Standing.{Standing}
use Rattle.causes.specs.declared.Report.{Report}
use Rattle.causes.specs.declared.PathCauses.{PathCauses}
use Rattle.causes.proofs.ssf_of.Kinds as ssf_of_kinds
use Rattle.causes.proofs.ssf_of.Reads as ssf_of_reads
use Rattle.causes.proofs.tim_acts.Kinds as tim_acts_kinds
use Rattle.causes.proofs.tim_acts.Reads as tim_acts_reads
use Rattle.causes.proofs.path_down.Kinds as path_down_kinds
use Rattle.causes.proofs.path_down.Reads as path_down_reads
use Rattle.causes.proofs.head_of.Kinds as head_of_kinds
use Rattle.causes.proofs.head_of.Reads as head_of_reads
use Rattle.causes.proofs.causes_by.Kinds as causes_by_kinds
use Rattle.causes.proofs.causes_by.Reads as causes_by_reads
use Rattle.causes.proofs.path_ssf.Kinds as path_ssf_kinds
use Rattle.causes.proofs.path_ssf.Reads as path_ssf_reads
use Rattle.causes.proofs.report_with.Kinds as report_with_kinds
use Rattle.causes.proofs.report_with.Reads as report_with_reads
use Rattle.causes.proofs.report_of.Kinds as report_of_kinds
use Rattle.causes.proofs.report_of.Reads as report_of_reads
use Rattle.causes.proofs.nothing.Kinds as nothing_kinds
use Rattle.causes.proofs.nothing.Reads as nothing_reads
use Rattle.causes.proofs.no_report.Kinds as no_report_kinds
use Rattle.causes.proofs.no_report.Reads as no_report_reads

-- OOF and OOM alone are no SSF
pub oof_fails : (κs : Lfts 0) (a : Dens κs ssf_of_kinds.ps) (s : AtExit (ended_of 0 ssf_of_kinds.ps ssf_of_kinds.r) κs)
    → a.0.tsf ≡ false → a.0.ais ≡ false → a.0.lof ≡ false → a.0.lom ≡ false → ssf_of_reads.Post κs a true s → ⊥
unfolding ssf_of
oof_fails κs a s tsf ais lof lom e = true≢false (simp (tsf, ais, lof, lom) at e)

-- a disabled dTIM does not act
pub disabled_acts : (κs : Lfts 0) (a : Dens κs tim_acts_kinds.ps) (s : AtExit (ended_of 0 tim_acts_kinds.ps tim_acts_kinds.r) κs)
    → a.0 ≡ true → a.1.0 ≡ true → tim_acts_reads.Post κs a true s → ⊥
unfolding tim_acts
disabled_acts κs a s tim dis e = true≢false (simp (tim, dis) at e)

-- path dTIM is none of SSF, dAIS, dOCI, dLCK
pub tim_is_down : (κs : Lfts 0) (a : Dens κs path_down_kinds.ps) (s : AtExit (ended_of 0 path_down_kinds.ps path_down_kinds.r) κs)
    → a.0 ≡ false → a.1.0.signal ≡ Clear → a.1.0.tim ≡ true → path_down_reads.Post κs a true s → ⊥
tim_is_down κs a s ssf clear tim e = true≢false (simp (ssf, clear) at e)

-- both flags: TSF-P comes first
pub ais_before_tsf : (κs : Lfts 0) (a : Dens κs head_of_kinds.ps) (s : AtExit (ended_of 0 head_of_kinds.ps head_of_kinds.r) κs)
    → a.0.line.tsf ≡ true → a.0.line.ais ≡ true → head_of_reads.Post κs a 2 s → ⊥
unfolding head_of
ais_before_tsf κs a s tsf ais e = let h : ◌≡◌ {A = ℕ} 2 1 = simp tsf at e in omega arith

-- where dOCI stands with SSF, it is no cause
pub oci_under_ssf : (κs : Lfts 0) (a : Dens κs causes_by_kinds.ps) (x : PathCauses) (s : AtExit (ended_of 0 causes_by_kinds.ps causes_by_kinds.r) κs)
    → a.0 ≡ true → a.1.1.0 ≡ true → x.oci ≡ true → causes_by_reads.Post κs a x s → ⊥
oci_under_ssf κs a x s ssf oci c e = let h : false ≡ true = simp (e, ssf, oci) at c in true≢false (sym h)

-- a section dTIM that TIMActDis keeps from acting is no SSF of the path
pub disabled_ssf : (κs : Lfts 0) (a : Dens κs path_ssf_kinds.ps) (s : AtExit (ended_of 0 path_ssf_kinds.ps path_ssf_kinds.r) κs)
    → ssf_of a.0.line ≡ false → a.0.section.disabled ≡ true → a.0.section.tim ≡ true → path_ssf_reads.Post κs a true s → ⊥
unfolding tim_acts
disabled_ssf κs a s ssf dis tim e = true≢false (simp (ssf, tim, dis) at e)

-- the path's causes are the ones handed in
pub causes_made : (κs : Lfts 0) (a : Dens κs report_with_kinds.ps) (x : Report) (s : AtExit (ended_of 0 report_with_kinds.ps report_with_kinds.r) κs)
    → a.0.oci ≡ true → x.causes.path.oci ≡ false → report_with_reads.Post κs a x s → ⊥
causes_made κs a x s oci c e = true≢false (simp (e, oci) at c)

-- cLOM is without dLOF
pub lom_under_lof : (κs : Lfts 0) (a : Dens κs report_of_kinds.ps) (x : Report) (s : AtExit (ended_of 0 report_of_kinds.ps report_of_kinds.r) κs)
    → a.0.line.tsf ≡ false → a.0.line.ais ≡ false → a.0.line.lof ≡ true → a.0.line.lom ≡ true → x.causes.line.lom ≡ true
    → report_of_reads.Post κs a x s → ⊥
unfolding report_of
lom_under_lof κs a x s tsf ais lof lom c e = let h : false ≡ true = simp (e, tsf, ais, lof, lom) at c in true≢false (sym h)

-- aBDI follows dTIM also where TIMActDis keeps it from acting
pub bdi_masked : (κs : Lfts 0) (a : Dens κs report_of_kinds.ps) (x : Report) (s : AtExit (ended_of 0 report_of_kinds.ps report_of_kinds.r) κs)
    → ssf_of a.0.line ≡ false → a.0.section.tim ≡ true → a.0.section.disabled ≡ true → x.section.bdi ≡ false
    → report_of_reads.Post κs a x s → ⊥
unfolding report_of
bdi_masked κs a x s ssf tim dis bdi e = true≢false (simp (e, ssf, tim) at bdi)

-- where nothing stands, the multiframe state is OOM
pub nothing_in_multi : (κs : Lfts 0) (a : Dens κs nothing_kinds.ps) (x : Standing) (s : AtExit (ended_of 0 nothing_kinds.ps nothing_kinds.r) κs)
    → x.line.inmulti ≡ true → nothing_reads.Post κs a x s → ⊥
nothing_in_multi κs a x s im e = let h : false ≡ true = rw e at im in true≢false (sym h)

-- a refusal reports no SSF
pub refusal_fails : (κs : Lfts 0) (a : Dens κs no_report_kinds.ps) (x : Report) (s : AtExit (ended_of 0 no_report_kinds.ps no_report_kinds.r) κs)
    → x.section.ssf ≡ true → no_report_reads.Post κs a x s → ⊥
unfolding no_report report_of ssf_of
refusal_fails κs a x s ssf e = let h : false ≡ true = rw e at ssf in true≢false (sym h)
