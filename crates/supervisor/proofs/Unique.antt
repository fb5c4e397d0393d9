-- No second answer, and no second content of the supervisor, meets the contracts of this crate. Assumes nothing.
use Rattle.std.proofs.Common.{◌≡◌, sym, ◌∙◌}
use contract.Lifetimes.{Lfts}
use borrow.Fn.Kinds.{Dens, res_t, ended_of}
use denote.Triple.Clauses.{AtExit}
use Rattle.answer.specs.Answer.{OneAnswer, OneEnd}
use Rattle.answer.proofs.Same.{same_answer, same_end}
use Rattle.supervisor.specs.declared.Supervisor.{Supervisor}
use Rattle.supervisor.proofs.Answered.{traced, trace_is}
use Rattle.supervisor.proofs.Supervisor.provision.Kinds as provision_kinds
use Rattle.supervisor.proofs.Supervisor.provision.Reads as provision_reads
use Rattle.supervisor.proofs.Supervisor.frame.Kinds as frame_kinds
use Rattle.supervisor.proofs.Supervisor.frame.Reads as frame_reads
use Rattle.supervisor.proofs.Supervisor.step.Kinds as step_kinds
use Rattle.supervisor.proofs.Supervisor.step.Reads as step_reads
use Rattle.supervisor.proofs.Supervisor.mark.Kinds as mark_kinds
use Rattle.supervisor.proofs.Supervisor.mark.Reads as mark_reads
use Rattle.supervisor.proofs.Supervisor.trace.Kinds as trace_of_kinds
use Rattle.supervisor.proofs.Supervisor.trace.Reads as trace_of_reads
use Rattle.supervisor.proofs.blank.Kinds as blank_kinds
use Rattle.supervisor.proofs.blank.Reads as blank_reads

pub provision_one : OneAnswer 4 provision_kinds.ps provision_kinds.r provision_reads.Post
provision_one κs a x y s t p q =
    let c = provision_reads.post-apart κs a x s p in
    let d = provision_reads.post-apart κs a y t q in
    same_answer x y _ _ c.refusal d.refusal c.ok d.ok

pub frame_one : OneAnswer 2 frame_kinds.ps frame_kinds.r frame_reads.Post
frame_one κs a x y s t p q =
    (frame_reads.post-apart κs a x s p).report ∙ sym ((frame_reads.post-apart κs a y t q).report)

pub frame_end : OneEnd 2 frame_kinds.ps frame_kinds.r Supervisor (λ κs s. s.0.now) frame_reads.Post
frame_end κs a x y s t p q =
    (frame_reads.post-apart κs a x s p).next ∙ sym ((frame_reads.post-apart κs a y t q).next)

pub step_one : OneAnswer 2 step_kinds.ps step_kinds.r step_reads.Post
step_one κs a x y s t p q =
    let c = step_reads.post-apart κs a x s p in
    let d = step_reads.post-apart κs a y t q in
    same_answer x y _ _ c.refusal d.refusal c.report d.report

pub step_end : OneEnd 2 step_kinds.ps step_kinds.r Supervisor (λ κs s. s.0.now) step_reads.Post
step_end κs a x y s t p q =
    let c = step_reads.post-apart κs a x s p in
    let d = step_reads.post-apart κs a y t q in
    same_end x y _ _ _ _ _ c.refusal d.refusal c.ok c.err d.ok d.err

pub mark_one : OneAnswer 1 mark_kinds.ps mark_kinds.r mark_reads.Post
mark_one κs a x y s t p q =
    let c = mark_reads.post-apart κs a x s p in
    let d = mark_reads.post-apart κs a y t q in
    same_answer x y _ _ c.refusal d.refusal c.figures d.figures

pub mark_end : OneEnd 1 mark_kinds.ps mark_kinds.r Supervisor (λ κs s. s.0.now) mark_reads.Post
mark_end κs a x y s t p q =
    let c = mark_reads.post-apart κs a x s p in
    let d = mark_reads.post-apart κs a y t q in
    same_end x y _ _ _ _ _ c.refusal d.refusal c.ok c.err d.ok d.err

-- of a trace that is lent: the refusal and the bytes
pub trace_of_one : (κs : Lfts 1) (a : Dens κs trace_of_kinds.ps) (x y : (res_t trace_of_kinds.r κs).Denot) (s t : AtExit (ended_of 1 trace_of_kinds.ps trace_of_kinds.r) κs)
    → trace_of_reads.Post κs a x s → trace_of_reads.Post κs a y t → traced x ≡ traced y
trace_of_one κs a x y s t p q = trace_is κs a x s p ∙ sym (trace_is κs a y t q)

pub blank_one : OneAnswer 0 blank_kinds.ps blank_kinds.r blank_reads.Post
blank_one κs a x y s t p q = p ∙ sym q
