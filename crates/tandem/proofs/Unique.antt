-- No second answer, and no second content of the supervisor, meets the contracts of this crate. Assumes nothing.
use Rattle.std.proofs.Common.{◌≡◌, sym, ap, ◌∙◌, List, ℕ}
use contract.Lifetimes.{Lfts}
use borrow.Fn.Kinds.{Dens, res_t, ended_of}
use denote.Triple.Clauses.{AtExit}
use Rattle.arrayvec.specs.ArrayVec.{ArrayVec}
use Rattle.answer.specs.Answer.{OneAnswer, OneEnd}
use Rattle.answer.proofs.Same.{same_answer, same_end, same_unit}
use Rattle.tandem.specs.declared.Tandem.{Tandem}
use Rattle.tandem.proofs.Answered.{traced, level_trace_is}
use Rattle.tandem.proofs.fresh_tandem.Kinds as fresh_tandem_kinds
use Rattle.tandem.proofs.fresh_tandem.Reads as fresh_tandem_reads
use Rattle.tandem.proofs.Tandem.give.Kinds as give_kinds
use Rattle.tandem.proofs.Tandem.give.Reads as give_reads
use Rattle.tandem.proofs.Tandem.give_record.Kinds as give_record_kinds
use Rattle.tandem.proofs.Tandem.give_record.Reads as give_record_reads
use Rattle.tandem.proofs.frame_accepted.Kinds as frame_accepted_kinds
use Rattle.tandem.proofs.frame_accepted.Reads as frame_accepted_reads
use Rattle.tandem.proofs.Tandem.step.Kinds as step_kinds
use Rattle.tandem.proofs.Tandem.step.Reads as step_reads
use Rattle.tandem.proofs.nothing_stands.Kinds as nothing_stands_kinds
use Rattle.tandem.proofs.nothing_stands.Reads as nothing_stands_reads
use Rattle.tandem.proofs.Tandem.mark.Kinds as mark_kinds
use Rattle.tandem.proofs.Tandem.mark.Reads as mark_reads
use Rattle.tandem.proofs.listed_figures.Kinds as listed_figures_kinds
use Rattle.tandem.proofs.listed_figures.Reads as listed_figures_reads
use Rattle.tandem.proofs.listed_array.Kinds as listed_array_kinds
use Rattle.tandem.proofs.listed_array.Reads as listed_array_reads
use Rattle.tandem.proofs.Tandem.level_report.Kinds as level_report_kinds
use Rattle.tandem.proofs.Tandem.level_report.Reads as level_report_reads
use Rattle.tandem.proofs.Tandem.level_trace.Kinds as level_trace_kinds
use Rattle.tandem.proofs.Tandem.level_trace.Reads as level_trace_reads

pub fresh_tandem_one : OneAnswer 0 fresh_tandem_kinds.ps fresh_tandem_kinds.r fresh_tandem_reads.Post
fresh_tandem_one κs a x y s t p q = p ∙ sym q

pub give_one : OneAnswer 3 give_kinds.ps give_kinds.r give_reads.Post
give_one κs a x y s t p q = same_unit x y _ (give_reads.post-apart κs a x s p).refusal (give_reads.post-apart κs a y t q).refusal

pub give_end : OneEnd 3 give_kinds.ps give_kinds.r Tandem (λ κs s. s.0.now) give_reads.Post
give_end κs a x y s t p q =
    let c = give_reads.post-apart κs a x s p in
    let d = give_reads.post-apart κs a y t q in
    same_end x y _ _ _ _ _ c.refusal d.refusal c.ok c.err d.ok d.err

pub give_record_one : OneAnswer 3 give_record_kinds.ps give_record_kinds.r give_record_reads.Post
give_record_one κs a x y s t p q = same_unit x y _ (give_record_reads.post-apart κs a x s p).refusal (give_record_reads.post-apart κs a y t q).refusal

pub give_record_end : OneEnd 3 give_record_kinds.ps give_record_kinds.r Tandem (λ κs s. s.0.now) give_record_reads.Post
give_record_end κs a x y s t p q =
    let c = give_record_reads.post-apart κs a x s p in
    let d = give_record_reads.post-apart κs a y t q in
    same_end x y _ _ _ _ _ c.refusal d.refusal c.ok c.err d.ok d.err

pub frame_accepted_one : OneAnswer 2 frame_accepted_kinds.ps frame_accepted_kinds.r frame_accepted_reads.Post
frame_accepted_one κs a x y s t p q = same_unit x y _ (frame_accepted_reads.post-apart κs a x s p).refusal (frame_accepted_reads.post-apart κs a y t q).refusal

pub step_one : OneAnswer 3 step_kinds.ps step_kinds.r step_reads.Post
step_one κs a x y s t p q =
    let c = step_reads.post-apart κs a x s p in
    let d = step_reads.post-apart κs a y t q in
    same_answer x y _ _ c.refusal d.refusal c.report d.report

pub step_end : OneEnd 3 step_kinds.ps step_kinds.r Tandem (λ κs s. s.0.now) step_reads.Post
step_end κs a x y s t p q =
    let c = step_reads.post-apart κs a x s p in
    let d = step_reads.post-apart κs a y t q in
    same_end x y _ _ _ _ _ c.refusal d.refusal c.ok c.err d.ok d.err

pub nothing_stands_one : OneAnswer 0 nothing_stands_kinds.ps nothing_stands_kinds.r nothing_stands_reads.Post
nothing_stands_one κs a x y s t p q = p ∙ sym q

pub mark_one : OneAnswer 1 mark_kinds.ps mark_kinds.r mark_reads.Post
mark_one κs a x y s t p q =
    let c = mark_reads.post-apart κs a x s p in
    let d = mark_reads.post-apart κs a y t q in
    same_answer x y _ _ c.refusal d.refusal c.figures d.figures

pub mark_end : OneEnd 1 mark_kinds.ps mark_kinds.r Tandem (λ κs s. s.0.now) mark_reads.Post
mark_end κs a x y s t p q =
    let c = mark_reads.post-apart κs a x s p in
    let d = mark_reads.post-apart κs a y t q in
    same_end x y _ _ _ _ _ c.refusal d.refusal c.ok c.err d.ok d.err

same_items : (x y : ArrayVec ℕ) (v : List ℕ) → x.items ≡ v → y.items ≡ v → x ≡ y
same_items x y v p q = ap (λ (u : List ℕ). record { items = u }) (p ∙ sym q)

pub listed_figures_one : OneAnswer 2 listed_figures_kinds.ps listed_figures_kinds.r listed_figures_reads.Post
listed_figures_one κs a x y s t p q = same_items x y _ p q

pub listed_array_one : OneAnswer 2 listed_array_kinds.ps listed_array_kinds.r listed_array_reads.Post
listed_array_one κs a x y s t p q = p ∙ sym q

pub level_report_one : OneAnswer 1 level_report_kinds.ps level_report_kinds.r level_report_reads.Post
level_report_one κs a x y s t p q =
    let c = level_report_reads.post-apart κs a x s p in
    let d = level_report_reads.post-apart κs a y t q in
    same_answer x y _ _ c.refusal d.refusal c.report d.report

-- of a trace that is lent: the refusal and the bytes
pub level_trace_one : (κs : Lfts 1) (a : Dens κs level_trace_kinds.ps) (x y : (res_t level_trace_kinds.r κs).Denot) (s t : AtExit (ended_of 1 level_trace_kinds.ps level_trace_kinds.r) κs)
    → level_trace_reads.Post κs a x s → level_trace_reads.Post κs a y t → traced x ≡ traced y
level_trace_one κs a x y s t p q = level_trace_is κs a x s p ∙ sym (level_trace_is κs a y t q)
