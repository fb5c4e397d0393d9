-- No second answer, and no second content of lent memory, meets the contract of a public function. Assumes nothing.
use mathlib.Core.Path.{sym, ◌∙◌}
use mathlib.Core.List.{List}
use Prim.Native.Nat.{ℕ}
use Rattle.answer.specs.Answer.{OneAnswer, OneEnd}
use Rattle.rack.proofs.level_at.Kinds as level_at_kinds
use Rattle.rack.proofs.level_at.Reads as level_at_reads
use Rattle.rack.proofs.level_sound.Kinds as level_sound_kinds
use Rattle.rack.proofs.level_sound.Reads as level_sound_reads

pub level_at_one : OneAnswer 1 level_at_kinds.ps level_at_kinds.r level_at_reads.Post
level_at_one κs a x y s t p q = p.answers ∙ sym q.answers

pub level_at_end : OneEnd 1 level_at_kinds.ps level_at_kinds.r (List ℕ) (λ κs s. s.0.now) level_at_reads.Post
level_at_end κs a x y s t p q = p.holds ∙ sym q.holds

pub level_sound_one : OneAnswer 1 level_sound_kinds.ps level_sound_kinds.r level_sound_reads.Post
level_sound_one κs a x y s t p q = p ∙ sym q
