-- Answers that tempting readings give, shut out by the contract of this crate. Assumes nothing.
use mathlib.Core.Path.{◌≡◌, ap, ◌∙◌}
use mathlib.Core.Bool.{true}
use lib.ListN.{replicate}
use contract.Lifetimes.{Lfts}
use borrow.Fn.Kinds.{Dens, ended_of}
use denote.Triple.Clauses.{AtExit}
use Rattle.answer.proofs.Cond.{not_so}
use Rattle.slot.specs.Slot.{slot_sound}
use Rattle.slot.proofs.is_slot.Kinds as is_slot_kinds
use Rattle.slot.proofs.is_slot.Reads as is_slot_reads

-- more bytes than a slot has are none
pub any_length : (κs : Lfts 1) (a : Dens κs is_slot_kinds.ps) (s : AtExit (ended_of 1 is_slot_kinds.ps is_slot_kinds.r) κs)
    → a.0.now ≡ replicate 208 0 → is_slot_reads.Post κs a true s → ⊥
unfolding slot_sound
any_length κs a s b e = not_so (e ∙ ap slot_sound b)
