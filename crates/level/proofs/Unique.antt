-- No second answer, and no second content of what is lent, meets the contracts of this crate. Assumes nothing.
use mathlib.Core.Path.{ap, sym, ◌∙◌}
use Rattle.answer.specs.Answer.{OneAnswer, OneEnd}
use Rattle.level.specs.Level.{level_stands}
use Rattle.level.specs.declared.LevelState.{LevelState}
use Rattle.level.specs.declared.LevelSecond.{LevelSecond}
use Rattle.level.proofs.status_for.Kinds as status_for_kinds
use Rattle.level.proofs.status_for.Reads as status_for_reads
use Rattle.level.proofs.raises_of.Kinds as raises_of_kinds
use Rattle.level.proofs.raises_of.Reads as raises_of_reads
use Rattle.level.proofs.LevelState.stands.Kinds as level_stands_kinds
use Rattle.level.proofs.LevelState.stands.Reads as level_stands_reads
use Rattle.level.proofs.LevelState.step.Kinds as level_step_kinds
use Rattle.level.proofs.LevelState.step.Reads as level_step_reads
use Rattle.level.proofs.level_actions.Kinds as level_actions_kinds
use Rattle.level.proofs.level_actions.Reads as level_actions_reads
use Rattle.level.proofs.level_causes.Kinds as level_causes_kinds
use Rattle.level.proofs.level_causes.Reads as level_causes_reads
use Rattle.level.proofs.level_shows.Kinds as level_shows_kinds
use Rattle.level.proofs.level_shows.Reads as level_shows_reads
use Rattle.level.proofs.LevelSecond.count.Kinds as level_count_kinds
use Rattle.level.proofs.LevelSecond.count.Reads as level_count_reads
use Rattle.level.proofs.level_closed.Kinds as level_closed_kinds
use Rattle.level.proofs.level_closed.Reads as level_closed_reads
use Rattle.level.proofs.LevelState.mark.Kinds as level_mark_kinds
use Rattle.level.proofs.LevelState.mark.Reads as level_mark_reads
use Rattle.level.proofs.fresh_level.Kinds as fresh_level_kinds
use Rattle.level.proofs.fresh_level.Reads as fresh_level_reads
use Rattle.level.proofs.fresh_level_second.Kinds as fresh_level_second_kinds
use Rattle.level.proofs.fresh_level_second.Reads as fresh_level_second_reads

pub status_for_one : OneAnswer 0 status_for_kinds.ps status_for_kinds.r status_for_reads.Post
status_for_one κs a x y s t p q = p ∙ sym q

pub raises_of_one : OneAnswer 0 raises_of_kinds.ps raises_of_kinds.r raises_of_reads.Post
raises_of_one κs a x y s t p q = p ∙ sym q

pub level_stands_one : OneAnswer 2 level_stands_kinds.ps level_stands_kinds.r level_stands_reads.Post
level_stands_one κs a x y s t p q = p ∙ sym q

pub level_step_end : OneEnd 4 level_step_kinds.ps level_step_kinds.r LevelState (λ κs s. s.0.now) level_step_reads.Post
level_step_end κs a x y s t p q = (level_step_reads.post-apart κs a x s p).state ∙ sym ((level_step_reads.post-apart κs a y t q).state)

pub level_step_one : OneAnswer 4 level_step_kinds.ps level_step_kinds.r level_step_reads.Post
level_step_one κs a x y s t p q =
    let c = level_step_reads.post-apart κs a x s p in
    let d = level_step_reads.post-apart κs a y t q in
    c.stands ∙ ap (λ (l : LevelState). level_stands l a.1.0.now a.1.1.0) (level_step_end κs a x y s t p q) ∙ sym d.stands

pub level_actions_one : OneAnswer 0 level_actions_kinds.ps level_actions_kinds.r level_actions_reads.Post
level_actions_one κs a x y s t p q = p ∙ sym q

pub level_causes_one : OneAnswer 0 level_causes_kinds.ps level_causes_kinds.r level_causes_reads.Post
level_causes_one κs a x y s t p q = p ∙ sym q

pub level_shows_one : OneAnswer 0 level_shows_kinds.ps level_shows_kinds.r level_shows_reads.Post
level_shows_one κs a x y s t p q = p ∙ sym q

pub level_count_one : OneEnd 2 level_count_kinds.ps level_count_kinds.r LevelSecond (λ κs s. s.0.now) level_count_reads.Post
level_count_one κs a x y s t p q = p ∙ sym q

pub level_closed_one : OneAnswer 0 level_closed_kinds.ps level_closed_kinds.r level_closed_reads.Post
level_closed_one κs a x y s t p q = p ∙ sym q

pub level_mark_one : OneEnd 3 level_mark_kinds.ps level_mark_kinds.r LevelState (λ κs s. s.0.now) level_mark_reads.Post
level_mark_one κs a x y s t p q = p ∙ sym q

pub fresh_level_one : OneAnswer 0 fresh_level_kinds.ps fresh_level_kinds.r fresh_level_reads.Post
fresh_level_one κs a x y s t p q = p ∙ sym q

pub fresh_level_second_one : OneAnswer 0 fresh_level_second_kinds.ps fresh_level_second_kinds.r fresh_level_second_reads.Post
fresh_level_second_one κs a x y s t p q = p ∙ sym q
