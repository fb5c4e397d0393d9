-- No second answer meets the contracts of this crate. Assumes nothing.
use mathlib.Core.Path.{sym, ◌∙◌}
use Rattle.answer.specs.Answer.{OneAnswer}
use Rattle.answer.proofs.Same.{same_answer}
use Rattle.summary.proofs.valid.Kinds as valid_kinds
use Rattle.summary.proofs.valid.Reads as valid_reads
use Rattle.summary.proofs.empty.Kinds as empty_kinds
use Rattle.summary.proofs.empty.Reads as empty_reads
use Rattle.summary.proofs.join.Kinds as join_kinds
use Rattle.summary.proofs.join.Reads as join_reads
use Rattle.summary.proofs.second_of.Kinds as second_of_kinds
use Rattle.summary.proofs.second_of.Reads as second_of_reads
use Rattle.summary.proofs.numbers_of.Kinds as numbers_of_kinds
use Rattle.summary.proofs.numbers_of.Reads as numbers_of_reads
use Rattle.summary.proofs.summary_by.Kinds as summary_by_kinds
use Rattle.summary.proofs.summary_by.Reads as summary_by_reads

pub valid_one : OneAnswer 1 valid_kinds.ps valid_kinds.r valid_reads.Post
valid_one κs a x y s t p q = p ∙ sym q

pub empty_one : OneAnswer 0 empty_kinds.ps empty_kinds.r empty_reads.Post
empty_one κs a x y s t p q = p ∙ sym q

pub join_one : OneAnswer 2 join_kinds.ps join_kinds.r join_reads.Post
join_one κs a x y s t p q =
    let c = join_reads.post-apart κs a x s p in
    let d = join_reads.post-apart κs a y t q in
    same_answer x y _ _ c.refusal d.refusal c.both d.both

pub second_of_one : OneAnswer 1 second_of_kinds.ps second_of_kinds.r second_of_reads.Post
second_of_one κs a x y s t p q = p ∙ sym q

pub numbers_of_one : OneAnswer 1 numbers_of_kinds.ps numbers_of_kinds.r numbers_of_reads.Post
numbers_of_one κs a x y s t p q = p ∙ sym q

pub summary_by_one : OneAnswer 1 summary_by_kinds.ps summary_by_kinds.r summary_by_reads.Post
summary_by_one κs a x y s t p q = p ∙ sym q
