-- No second answer meets the contracts of this crate. Assumes nothing.
use mathlib.Core.Path.{sym, ◌∙◌}
use Rattle.answer.specs.Answer.{OneAnswer}
use Rattle.overhead.proofs.overhead_of.Kinds as overhead_of_kinds
use Rattle.overhead.proofs.overhead_of.Reads as overhead_of_reads
use Rattle.overhead.proofs.level_field.Kinds as level_field_kinds
use Rattle.overhead.proofs.level_field.Reads as level_field_reads
use Rattle.overhead.proofs.bei_of.Kinds as bei_of_kinds
use Rattle.overhead.proofs.bei_of.Reads as bei_of_reads
use Rattle.overhead.proofs.path_bei.Kinds as path_bei_kinds
use Rattle.overhead.proofs.path_bei.Reads as path_bei_reads
use Rattle.overhead.proofs.is_far.Kinds as is_far_kinds
use Rattle.overhead.proofs.is_far.Reads as is_far_reads
use Rattle.overhead.proofs.violations.Kinds as violations_kinds
use Rattle.overhead.proofs.violations.Reads as violations_reads
use Rattle.overhead.proofs.is_mark.Kinds as is_mark_kinds
use Rattle.overhead.proofs.is_mark.Reads as is_mark_reads

pub overhead_of_one : OneAnswer 1 overhead_of_kinds.ps overhead_of_kinds.r overhead_of_reads.Post
overhead_of_one κs a x y s t p q = p ∙ sym q

pub level_field_one : OneAnswer 1 level_field_kinds.ps level_field_kinds.r level_field_reads.Post
level_field_one κs a x y s t p q = p ∙ sym q

pub bei_of_one : OneAnswer 0 bei_of_kinds.ps bei_of_kinds.r bei_of_reads.Post
bei_of_one κs a x y s t p q = p ∙ sym q

pub path_bei_one : OneAnswer 0 path_bei_kinds.ps path_bei_kinds.r path_bei_reads.Post
path_bei_one κs a x y s t p q = p ∙ sym q

pub is_far_one : OneAnswer 0 is_far_kinds.ps is_far_kinds.r is_far_reads.Post
is_far_one κs a x y s t p q = p ∙ sym q

pub violations_one : OneAnswer 0 violations_kinds.ps violations_kinds.r violations_reads.Post
violations_one κs a x y s t p q = p ∙ sym q

pub is_mark_one : OneAnswer 0 is_mark_kinds.ps is_mark_kinds.r is_mark_reads.Post
is_mark_one κs a x y s t p q = p ∙ sym q
