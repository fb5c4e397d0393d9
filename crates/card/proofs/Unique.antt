-- No second answer and no second content of lent memory meets the contract of a call, and no call asks anything of its caller.
-- Assumes nothing.
use mathlib.Core.Path.{sym, ◌∙◌}
use mathlib.Core.List.{List}
use Prim.Native.Nat.{ℕ}
use contract.Lifetimes.{Lfts}
use borrow.Fn.Kinds.{Dens}
use Rattle.answer.specs.Answer.{OneAnswer, OneEnd}
use Rattle.card.proofs.otn_fresh.Kinds as fresh_kinds
use Rattle.card.proofs.otn_fresh.Reads as fresh_reads
use Rattle.card.proofs.otn_level.Kinds as level_kinds
use Rattle.card.proofs.otn_level.Reads as level_reads
use Rattle.card.proofs.otn_step.Kinds as step_kinds
use Rattle.card.proofs.otn_step.Reads as step_reads
use Rattle.card.proofs.otn_step_levels.Kinds as step_levels_kinds
use Rattle.card.proofs.otn_step_levels.Reads as step_levels_reads
use Rattle.card.proofs.otn_mark.Kinds as mark_kinds
use Rattle.card.proofs.otn_mark.Reads as mark_reads
use Rattle.card.proofs.otn_pending.Kinds as pending_kinds
use Rattle.card.proofs.otn_pending.Reads as pending_reads
use Rattle.card.proofs.otn_trace.Kinds as trace_kinds
use Rattle.card.proofs.otn_trace.Reads as trace_reads
use Rattle.card.proofs.otn_level_report.Kinds as level_report_kinds
use Rattle.card.proofs.otn_level_report.Reads as level_report_reads
use Rattle.card.proofs.otn_summary.Kinds as summary_kinds
use Rattle.card.proofs.otn_summary.Reads as summary_reads
use Rattle.card.proofs.otn_join.Kinds as join_kinds
use Rattle.card.proofs.otn_join.Reads as join_reads
use Rattle.card.proofs.otn_level_trace.Kinds as level_trace_kinds
use Rattle.card.proofs.otn_level_trace.Reads as level_trace_reads

pub fresh_one : OneAnswer 3 fresh_kinds.ps fresh_kinds.r fresh_reads.Post
fresh_one κs a x y s t p q = p.answers ∙ sym q.answers

pub fresh_end : OneEnd 3 fresh_kinds.ps fresh_kinds.r (List ℕ) (λ κs s. s.0.now) fresh_reads.Post
fresh_end κs a x y s t p q = p.holds ∙ sym q.holds

pub level_one : OneAnswer 2 level_kinds.ps level_kinds.r level_reads.Post
level_one κs a x y s t p q = p.answers ∙ sym q.answers

pub level_end : OneEnd 2 level_kinds.ps level_kinds.r (List ℕ) (λ κs s. s.0.now) level_reads.Post
level_end κs a x y s t p q = p.holds ∙ sym q.holds

pub step_one : OneAnswer 2 step_kinds.ps step_kinds.r step_reads.Post
step_one κs a x y s t p q = p.answers ∙ sym q.answers

pub step_end : OneEnd 2 step_kinds.ps step_kinds.r (List ℕ) (λ κs s. s.0.now) step_reads.Post
step_end κs a x y s t p q = p.holds ∙ sym q.holds

pub step_levels_one : OneAnswer 2 step_levels_kinds.ps step_levels_kinds.r step_levels_reads.Post
step_levels_one κs a x y s t p q = p.answers ∙ sym q.answers

pub step_levels_end : OneEnd 2 step_levels_kinds.ps step_levels_kinds.r (List ℕ) (λ κs s. s.0.now) step_levels_reads.Post
step_levels_end κs a x y s t p q = p.holds ∙ sym q.holds

pub mark_one : OneAnswer 2 mark_kinds.ps mark_kinds.r mark_reads.Post
mark_one κs a x y s t p q = p.answers ∙ sym q.answers

pub mark_end : OneEnd 2 mark_kinds.ps mark_kinds.r (List ℕ) (λ κs s. s.0.now) mark_reads.Post
mark_end κs a x y s t p q = p.holds ∙ sym q.holds

pub mark_record_lem : OneEnd 2 mark_kinds.ps mark_kinds.r (List ℕ) (λ κs s. s.1.0.now) mark_reads.Post
mark_record_lem κs a x y s t p q = p.fills ∙ sym q.fills

pub pending_one : OneAnswer 2 pending_kinds.ps pending_kinds.r pending_reads.Post
pending_one κs a x y s t p q = p.answers ∙ sym q.answers

pub pending_record_lem : OneEnd 2 pending_kinds.ps pending_kinds.r (List ℕ) (λ κs s. s.1.0.now) pending_reads.Post
pending_record_lem κs a x y s t p q = p.fills ∙ sym q.fills

pub trace_one : OneAnswer 2 trace_kinds.ps trace_kinds.r trace_reads.Post
trace_one κs a x y s t p q = p.answers ∙ sym q.answers

pub trace_end : OneEnd 2 trace_kinds.ps trace_kinds.r (List ℕ) (λ κs s. s.1.1.0.now) trace_reads.Post
trace_end κs a x y s t p q = p.holds ∙ sym q.holds

pub level_report_one : OneAnswer 1 level_report_kinds.ps level_report_kinds.r level_report_reads.Post
level_report_one κs a x y s t p q = p.answers ∙ sym q.answers

pub level_trace_one : OneAnswer 2 level_trace_kinds.ps level_trace_kinds.r level_trace_reads.Post
level_trace_one κs a x y s t p q = p.answers ∙ sym q.answers

pub level_trace_end : OneEnd 2 level_trace_kinds.ps level_trace_kinds.r (List ℕ) (λ κs s. s.1.1.0.now) level_trace_reads.Post
level_trace_end κs a x y s t p q = p.holds ∙ sym q.holds

pub summary_one : OneAnswer 2 summary_kinds.ps summary_kinds.r summary_reads.Post
summary_one κs a x y s t p q = p.answers ∙ sym q.answers

pub summary_end : OneEnd 2 summary_kinds.ps summary_kinds.r (List ℕ) (λ κs s. s.1.0.now) summary_reads.Post
summary_end κs a x y s t p q = p.fills ∙ sym q.fills

pub join_one : OneAnswer 3 join_kinds.ps join_kinds.r join_reads.Post
join_one κs a x y s t p q = p.answers ∙ sym q.answers

pub join_end : OneEnd 3 join_kinds.ps join_kinds.r (List ℕ) (λ κs s. s.1.1.0.now) join_reads.Post
join_end κs a x y s t p q = p.fills ∙ sym q.fills

-- nothing is asked beforehand
pub fresh_asks_nothing : (κs : Lfts 3) (a : Dens κs fresh_kinds.ps) → fresh_reads.Asked κs a
fresh_asks_nothing κs a = tt

pub level_asks_nothing : (κs : Lfts 2) (a : Dens κs level_kinds.ps) → level_reads.Asked κs a
level_asks_nothing κs a = tt

pub step_asks_nothing : (κs : Lfts 2) (a : Dens κs step_kinds.ps) → step_reads.Asked κs a
step_asks_nothing κs a = tt

pub step_levels_asks_nothing : (κs : Lfts 2) (a : Dens κs step_levels_kinds.ps) → step_levels_reads.Asked κs a
step_levels_asks_nothing κs a = tt

pub mark_asks_nothing : (κs : Lfts 2) (a : Dens κs mark_kinds.ps) → mark_reads.Asked κs a
mark_asks_nothing κs a = tt

pub pending_asks_nothing : (κs : Lfts 2) (a : Dens κs pending_kinds.ps) → pending_reads.Asked κs a
pending_asks_nothing κs a = tt

pub trace_asks_nothing : (κs : Lfts 2) (a : Dens κs trace_kinds.ps) → trace_reads.Asked κs a
trace_asks_nothing κs a = tt

pub level_report_asks_nothing : (κs : Lfts 1) (a : Dens κs level_report_kinds.ps) → level_report_reads.Asked κs a
level_report_asks_nothing κs a = tt

pub level_trace_asks_nothing : (κs : Lfts 2) (a : Dens κs level_trace_kinds.ps) → level_trace_reads.Asked κs a
level_trace_asks_nothing κs a = tt

pub summary_asks_nothing : (κs : Lfts 2) (a : Dens κs summary_kinds.ps) → summary_reads.Asked κs a
summary_asks_nothing κs a = tt

pub join_asks_nothing : (κs : Lfts 3) (a : Dens κs join_kinds.ps) → join_reads.Asked κs a
join_asks_nothing κs a = tt
