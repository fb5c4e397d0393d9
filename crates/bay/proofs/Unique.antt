-- No second answer, and no second content of lent memory, meets the contract of a public function. Assumes nothing.
use mathlib.Core.Path.{sym, ◌∙◌}
use mathlib.Core.List.{List}
use Prim.Native.Nat.{ℕ}
use Rattle.answer.specs.Answer.{OneAnswer, OneEnd}
use Rattle.answer.proofs.Same.{same_answer}
use Rattle.bay.proofs.is_bay.Kinds as is_bay_kinds
use Rattle.bay.proofs.is_bay.Reads as is_bay_reads
use Rattle.bay.proofs.lay_bay.Kinds as lay_bay_kinds
use Rattle.bay.proofs.lay_bay.Reads as lay_bay_reads
use Rattle.bay.proofs.give_at.Kinds as give_at_kinds
use Rattle.bay.proofs.give_at.Reads as give_at_reads
use Rattle.bay.proofs.frame_at.Kinds as frame_at_kinds
use Rattle.bay.proofs.frame_at.Reads as frame_at_reads
use Rattle.bay.proofs.mark_at.Kinds as mark_at_kinds
use Rattle.bay.proofs.mark_at.Reads as mark_at_reads
use Rattle.bay.proofs.given_at.Kinds as given_at_kinds
use Rattle.bay.proofs.given_at.Reads as given_at_reads
use Rattle.bay.proofs.stands_at.Kinds as stands_at_kinds
use Rattle.bay.proofs.stands_at.Reads as stands_at_reads
use Rattle.bay.proofs.trace_at.Kinds as trace_at_kinds
use Rattle.bay.proofs.trace_at.Reads as trace_at_reads

pub is_bay_one : OneAnswer 1 is_bay_kinds.ps is_bay_kinds.r is_bay_reads.Post
is_bay_one κs a x y s t p q = p ∙ sym q

pub lay_bay_end : OneEnd 1 lay_bay_kinds.ps lay_bay_kinds.r (List ℕ) (λ κs s. s.0.now) lay_bay_reads.Post
lay_bay_end κs a x y s t p q = p ∙ sym q

pub give_at_end : OneEnd 2 give_at_kinds.ps give_at_kinds.r (List ℕ) (λ κs s. s.0.now) give_at_reads.Post
give_at_end κs a x y s t p q = p ∙ sym q

pub frame_at_end : OneEnd 2 frame_at_kinds.ps frame_at_kinds.r (List ℕ) (λ κs s. s.0.now) frame_at_reads.Post
frame_at_end κs a x y s t p q = p ∙ sym q

pub mark_at_one : OneAnswer 1 mark_at_kinds.ps mark_at_kinds.r mark_at_reads.Post
mark_at_one κs a x y s t p q = p.answers ∙ sym q.answers

pub mark_at_end : OneEnd 1 mark_at_kinds.ps mark_at_kinds.r (List ℕ) (λ κs s. s.0.now) mark_at_reads.Post
mark_at_end κs a x y s t p q = p.holds ∙ sym q.holds

pub given_at_one : OneAnswer 1 given_at_kinds.ps given_at_kinds.r given_at_reads.Post
given_at_one κs a x y s t p q = p ∙ sym q

pub stands_at_one : OneAnswer 1 stands_at_kinds.ps stands_at_kinds.r stands_at_reads.Post
stands_at_one κs a x y s t p q = p ∙ sym q

pub trace_at_one : OneAnswer 1 trace_at_kinds.ps trace_at_kinds.r trace_at_reads.Post
trace_at_one κs a x y s t p q =
    let c = trace_at_reads.post-apart κs a x s p in
    let d = trace_at_reads.post-apart κs a y t q in
    same_answer x y _ _ c.refusal d.refusal c.ok d.ok
