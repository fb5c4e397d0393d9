-- No second answer, and no second content of what is lent, meets the contracts of this crate. Assumes nothing.
use mathlib.Core.Path.{sym, ◌∙◌}
use Rattle.answer.specs.Answer.{OneAnswer, OneEnd}
use Rattle.second.specs.declared.Blocks.{Blocks}
use Rattle.second.specs.declared.Second.{Second}
use Rattle.second.proofs.counted.Kinds as counted_kinds
use Rattle.second.proofs.counted.Reads as counted_reads
use Rattle.second.proofs.Blocks.step.Kinds as blocks_step_kinds
use Rattle.second.proofs.Blocks.step.Reads as blocks_step_reads
use Rattle.second.proofs.Second.count.Kinds as count_kinds
use Rattle.second.proofs.Second.count.Reads as count_reads
use Rattle.second.proofs.discard.Kinds as discard_kinds
use Rattle.second.proofs.discard.Reads as discard_reads
use Rattle.second.proofs.closed.Kinds as closed_kinds
use Rattle.second.proofs.closed.Reads as closed_reads
use Rattle.second.proofs.figures.Kinds as figures_kinds
use Rattle.second.proofs.figures.Reads as figures_reads
use Rattle.second.proofs.fresh_second.Kinds as fresh_second_kinds
use Rattle.second.proofs.fresh_second.Reads as fresh_second_reads

pub counted_one : OneAnswer 0 counted_kinds.ps counted_kinds.r counted_reads.Post
counted_one κs a x y s t p q = p ∙ sym q

pub blocks_step_one : OneEnd 2 blocks_step_kinds.ps blocks_step_kinds.r Blocks (λ κs s. s.0.now) blocks_step_reads.Post
blocks_step_one κs a x y s t p q = p ∙ sym q

pub count_one : OneEnd 3 count_kinds.ps count_kinds.r Second (λ κs s. s.0.now) count_reads.Post
count_one κs a x y s t p q = p ∙ sym q

pub discard_one : OneAnswer 0 discard_kinds.ps discard_kinds.r discard_reads.Post
discard_one κs a x y s t p q = p ∙ sym q

pub closed_one : OneAnswer 0 closed_kinds.ps closed_kinds.r closed_reads.Post
closed_one κs a x y s t p q = p ∙ sym q

pub figures_one : OneAnswer 0 figures_kinds.ps figures_kinds.r figures_reads.Post
figures_one κs a x y s t p q = p ∙ sym q

pub fresh_second_one : OneAnswer 0 fresh_second_kinds.ps fresh_second_kinds.r fresh_second_reads.Post
fresh_second_one κs a x y s t p q = p ∙ sym q
