-- No second answer meets the contracts of this crate. Assumes nothing.
use mathlib.Core.Path.{sym, ◌∙◌}
use Rattle.answer.specs.Answer.{OneAnswer}
use Rattle.answer.proofs.test.Kinds as test_kinds
use Rattle.answer.proofs.test.Reads as test_reads
use Rattle.answer.proofs.Refusal.number.Kinds as number_kinds
use Rattle.answer.proofs.Refusal.number.Reads as number_reads

pub test_one : OneAnswer 0 test_kinds.ps test_kinds.r test_reads.Post
test_one κs a x y s t p q = p ∙ sym q

pub refusal_number_one : OneAnswer 0 number_kinds.ps number_kinds.r number_reads.Post
refusal_number_one κs a x y s t p q = p ∙ sym q
