-- No second answer meets the contract of this crate. Assumes nothing.
use mathlib.Core.Path.{sym, ◌∙◌}
use Rattle.answer.specs.Answer.{OneAnswer}
use Rattle.slot.proofs.is_slot.Kinds as is_slot_kinds
use Rattle.slot.proofs.is_slot.Reads as is_slot_reads

pub is_slot_one : OneAnswer 1 is_slot_kinds.ps is_slot_kinds.r is_slot_reads.Post
is_slot_one κs a x y s t p q = p ∙ sym q
