-- No second answer meets the contracts of this crate. Assumes nothing.
use mathlib.Core.Path.{sym, ◌∙◌}
use Rattle.answer.specs.Answer.{OneAnswer}
use Rattle.filter.proofs.up.Kinds as up_kinds
use Rattle.filter.proofs.up.Reads as up_reads
use Rattle.filter.proofs.add.Kinds as add_kinds
use Rattle.filter.proofs.add.Reads as add_reads
use Rattle.filter.proofs.filter_step.Kinds as filter_step_kinds
use Rattle.filter.proofs.filter_step.Reads as filter_step_reads
use Rattle.filter.proofs.stat_step.Kinds as stat_step_kinds
use Rattle.filter.proofs.stat_step.Reads as stat_step_reads

pub up_one : OneAnswer 0 up_kinds.ps up_kinds.r up_reads.Post
up_one κs a x y s t p q = p ∙ sym q

pub add-one : OneAnswer 0 add_kinds.ps add_kinds.r add_reads.Post
add-one κs a x y s t p q = p ∙ sym q

pub filter_step_one : OneAnswer 0 filter_step_kinds.ps filter_step_kinds.r filter_step_reads.Post
filter_step_one κs a x y s t p q = p ∙ sym q

pub stat_step_one : OneAnswer 0 stat_step_kinds.ps stat_step_kinds.r stat_step_reads.Post
stat_step_one κs a x y s t p q = p ∙ sym q
