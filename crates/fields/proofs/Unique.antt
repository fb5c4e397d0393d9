-- No second answer, and no second content of lent memory, meets the contract of a public function. Assumes nothing.
use mathlib.Core.Path.{sym, ◌∙◌}
use mathlib.Core.List.{List}
use Prim.Native.Nat.{ℕ}
use Rattle.answer.specs.Answer.{OneAnswer, OneEnd}
use Rattle.fields.proofs.filter_at.Kinds as filter_at_kinds
use Rattle.fields.proofs.filter_at.Reads as filter_at_reads
use Rattle.fields.proofs.stat_in.Kinds as stat_in_kinds
use Rattle.fields.proofs.stat_in.Reads as stat_in_reads
use Rattle.fields.proofs.lay_stat.Kinds as lay_stat_kinds
use Rattle.fields.proofs.lay_stat.Reads as lay_stat_reads
use Rattle.fields.proofs.flags_at.Kinds as flags_at_kinds
use Rattle.fields.proofs.flags_at.Reads as flags_at_reads
use Rattle.fields.proofs.frame_at.Kinds as frame_at_kinds
use Rattle.fields.proofs.frame_at.Reads as frame_at_reads
use Rattle.fields.proofs.counts_at.Kinds as counts_at_kinds
use Rattle.fields.proofs.counts_at.Reads as counts_at_reads

pub filter_at_one : OneAnswer 1 filter_at_kinds.ps filter_at_kinds.r filter_at_reads.Post
filter_at_one κs a x y s t p q = p.answers ∙ sym q.answers

pub filter_at_end : OneEnd 1 filter_at_kinds.ps filter_at_kinds.r (List ℕ) (λ κs s. s.0.now) filter_at_reads.Post
filter_at_end κs a x y s t p q = p.holds ∙ sym q.holds

pub stat_in_one : OneAnswer 0 stat_in_kinds.ps stat_in_kinds.r stat_in_reads.Post
stat_in_one κs a x y s t p q = p ∙ sym q

pub lay_stat_end : OneEnd 1 lay_stat_kinds.ps lay_stat_kinds.r (List ℕ) (λ κs s. s.0.now) lay_stat_reads.Post
lay_stat_end κs a x y s t p q = p ∙ sym q

pub flags_at_end : OneEnd 1 flags_at_kinds.ps flags_at_kinds.r (List ℕ) (λ κs s. s.0.now) flags_at_reads.Post
flags_at_end κs a x y s t p q = p ∙ sym q

pub counts_at_end : OneEnd 1 counts_at_kinds.ps counts_at_kinds.r (List ℕ) (λ κs s. s.0.now) counts_at_reads.Post
counts_at_end κs a x y s t p q = p ∙ sym q

pub frame_at_end : OneEnd 1 frame_at_kinds.ps frame_at_kinds.r (List ℕ) (λ κs s. s.0.now) frame_at_reads.Post
frame_at_end κs a x y s t p q = p ∙ sym q
