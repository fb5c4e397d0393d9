-- Answers that tempting readings give, shut out by the contracts of this crate. Assumes nothing.
use Prim.Native.Nat.{ℕ}
use mathlib.Core.Path.{◌≡◌, ◌∙◌}
use mathlib.Core.Bool.{true, false, true≢false}
use native.Mathlib.Omega.{arith}
use contract.Lifetimes.{Lfts}
use borrow.Fn.Kinds.{Dens, ended_of}
use denote.Triple.Clauses.{AtExit}
use Rattle.answer.specs.Answer.{NoAnswer}
use Rattle.causes.specs.Causes.{tim_acts, path_ssf}
use Rattle.causes.specs.declared.Report.{Report}
use Rattle.lookup.specs.Lookup.{cause_table, entry}
use Rattle.lookup.proofs.Table.{by_equations}
use Rattle.lookup.proofs.causes_by_table.Kinds as causes_by_table_kinds
use Rattle.lookup.proofs.causes_by_table.Reads as causes_by_table_reads
use Rattle.lookup.proofs.causes_by_equations.Kinds as causes_by_equations_kinds
use Rattle.lookup.proofs.causes_by_equations.Reads as causes_by_equations_reads
use Rattle.lookup.proofs.report_by_table.Kinds as report_by_table_kinds
use Rattle.lookup.proofs.report_by_table.Reads as report_by_table_reads

-- dTIM with TIMActDis: the cause is reported all the same
pub tim_masked : NoAnswer causes_by_table_kinds.ps causes_by_table_kinds.r causes_by_table_reads.Post (false, (false, (false, (false, (true, (true, (false, (false, tt)))))))) 0
unfolding entry cause_table
tim_masked s e = let h : ◌≡◌ {A = ℕ} 0 4 = e in omega arith

-- dAIS with dOCI, which no signal is: the equations give cOCI and cSSF there too
pub none_of_both : NoAnswer causes_by_table_kinds.ps causes_by_table_kinds.r causes_by_table_reads.Post (false, (true, (true, (false, (false, (false, (false, (false, tt)))))))) 0
unfolding entry cause_table
none_of_both s e = let h : ◌≡◌ {A = ℕ} 0 33 = e in omega arith

-- dLCK alone is cLCK, the second bit
pub lck_first : NoAnswer causes_by_equations_kinds.ps causes_by_equations_kinds.r causes_by_equations_reads.Post (false, (false, (false, (true, (false, (false, (false, (false, tt)))))))) 1
unfolding tim_acts
lck_first s e = let h : ◌≡◌ {A = ℕ} 1 2 = e in omega arith

-- dAIS is cSSF
pub ais_untold : (κs : Lfts 0) (a : Dens κs report_by_table_kinds.ps) (x : Report) (s : AtExit (ended_of 0 report_by_table_kinds.ps report_by_table_kinds.r) κs)
    → path_ssf a.1.0 ≡ false → a.0.ais ≡ true → x.causes.path.ssf ≡ false → report_by_table_reads.Post κs a x s → ⊥
ais_untold κs a x s ssf ais c e =
    let h = e ∙ by_equations a.0 a.1.0 a.1.1.0 a.1.1.1.0 in true≢false (simp (h, ssf, ais) at c)
