-- No second answer meets the contracts of this crate. Assumes nothing.
use Rattle.std.proofs.Common.{sym, ◌∙◌}
use Rattle.answer.specs.Answer.{OneAnswer}
use Rattle.answer.proofs.Same.{same_unit}
use Rattle.settings.proofs.accepted.Kinds as accepted_kinds
use Rattle.settings.proofs.accepted.Reads as accepted_reads
use Rattle.settings.proofs.options_of.Kinds as options_of_kinds
use Rattle.settings.proofs.options_of.Reads as options_of_reads

pub settings_refusal_one : OneAnswer 4 accepted_kinds.ps accepted_kinds.r accepted_reads.Post
settings_refusal_one κs a x y s t p q = same_unit x y _ p q

pub options_of_one : OneAnswer 1 options_of_kinds.ps options_of_kinds.r options_of_reads.Post
options_of_one κs a x y s t p q = p ∙ sym q
