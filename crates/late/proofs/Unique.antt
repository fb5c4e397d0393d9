-- No second answer, and no second content of what is lent, meets the contracts of this crate. Assumes nothing.
use Rattle.std.proofs.Common.{sym, ◌∙◌, List, ℕ}
use Rattle.answer.specs.Answer.{OneAnswer, OneEnd}
use Rattle.answer.proofs.Same.{same_answer, same_end}
use Rattle.late.specs.declared.Late.{Late}
use Rattle.late.proofs.fresh_late.Kinds as fresh_late_kinds
use Rattle.late.proofs.fresh_late.Reads as fresh_late_reads
use Rattle.late.proofs.void.Kinds as void_kinds
use Rattle.late.proofs.void.Reads as void_reads
use Rattle.late.proofs.Late.pending.Kinds as pending_kinds
use Rattle.late.proofs.Late.pending.Reads as pending_reads
use Rattle.late.proofs.Late.pending_report.Kinds as pending_report_kinds
use Rattle.late.proofs.Late.pending_report.Reads as pending_report_reads
use Rattle.late.proofs.Late.next_report.Kinds as next_report_kinds
use Rattle.late.proofs.Late.next_report.Reads as next_report_reads
use Rattle.late.proofs.Late.mark.Kinds as mark_kinds
use Rattle.late.proofs.Late.mark.Reads as mark_reads

pub fresh_late_one : OneAnswer 0 fresh_late_kinds.ps fresh_late_kinds.r fresh_late_reads.Post
fresh_late_one κs a x y s t p q = p ∙ sym q

-- void answers nothing but what it leaves
pub void_one : OneEnd 2 void_kinds.ps void_kinds.r (List ℕ) (λ κs s. s.0.now) void_reads.Post
void_one κs a x y s t p q = p ∙ sym q

pub pending_one : OneAnswer 1 pending_kinds.ps pending_kinds.r pending_reads.Post
pending_one κs a x y s t p q = p ∙ sym q

pub pending_report_one : OneAnswer 1 pending_report_kinds.ps pending_report_kinds.r pending_report_reads.Post
pending_report_one κs a x y s t p q = p ∙ sym q

pub next_report_one : OneAnswer 1 next_report_kinds.ps next_report_kinds.r next_report_reads.Post
next_report_one κs a x y s t p q = p ∙ sym q

pub mark_one : OneAnswer 1 mark_kinds.ps mark_kinds.r mark_reads.Post
mark_one κs a x y s t p q =
    let c = mark_reads.post-apart κs a x s p in
    let d = mark_reads.post-apart κs a y t q in
    same_answer x y _ _ c.refusal d.refusal c.figures d.figures

pub mark_end : OneEnd 1 mark_kinds.ps mark_kinds.r Late (λ κs s. s.0.now) mark_reads.Post
mark_end κs a x y s t p q =
    let c = mark_reads.post-apart κs a x s p in
    let d = mark_reads.post-apart κs a y t q in
    same_end x y _ _ _ _ _ c.refusal d.refusal c.ok c.err d.ok d.err
