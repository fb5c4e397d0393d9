-- No second answer meets the contracts of this crate. Assumes nothing.
use mathlib.Core.Path.{sym, ◌∙◌}
use Rattle.answer.specs.Answer.{OneAnswer}
use Rattle.lookup.proofs.causes_by_table.Kinds as causes_by_table_kinds
use Rattle.lookup.proofs.causes_by_table.Reads as causes_by_table_reads
use Rattle.lookup.proofs.causes_by_equations.Kinds as causes_by_equations_kinds
use Rattle.lookup.proofs.causes_by_equations.Reads as causes_by_equations_reads
use Rattle.lookup.proofs.report_by_table.Kinds as report_by_table_kinds
use Rattle.lookup.proofs.report_by_table.Reads as report_by_table_reads

pub causes_by_table_one : OneAnswer 0 causes_by_table_kinds.ps causes_by_table_kinds.r causes_by_table_reads.Post
causes_by_table_one κs a x y s t p q = p ∙ sym q

pub causes_by_equations_one : OneAnswer 0 causes_by_equations_kinds.ps causes_by_equations_kinds.r causes_by_equations_reads.Post
causes_by_equations_one κs a x y s t p q = p ∙ sym q

pub report_by_table_one : OneAnswer 0 report_by_table_kinds.ps report_by_table_kinds.r report_by_table_reads.Post
report_by_table_one κs a x y s t p q = p ∙ sym q
