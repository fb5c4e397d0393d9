-- No second answer meets the contracts of this crate. Assumes nothing.
use mathlib.Core.Path.{sym, ◌∙◌}
use Rattle.answer.specs.Answer.{OneAnswer}
use Rattle.signal.proofs.stands_for.Kinds as stands_for_kinds
use Rattle.signal.proofs.stands_for.Reads as stands_for_reads
use Rattle.signal.proofs.raised_by.Kinds as raised_by_kinds
use Rattle.signal.proofs.raised_by.Reads as raised_by_reads
use Rattle.signal.proofs.raised_in.Kinds as raised_in_kinds
use Rattle.signal.proofs.raised_in.Reads as raised_in_reads

pub stands_for_one : OneAnswer 0 stands_for_kinds.ps stands_for_kinds.r stands_for_reads.Post
stands_for_one κs a x y s t p q = p ∙ sym q

pub raised_by_one : OneAnswer 0 raised_by_kinds.ps raised_by_kinds.r raised_by_reads.Post
raised_by_one κs a x y s t p q = p ∙ sym q

pub raised_in_one : OneAnswer 0 raised_in_kinds.ps raised_in_kinds.r raised_in_reads.Post
raised_in_one κs a x y s t p q = p ∙ sym q
