-- No second content of lent memory meets the contract of a public function. Assumes nothing.
use mathlib.Core.Path.{sym, ◌∙◌}
use mathlib.Core.List.{List}
use Prim.Native.Nat.{ℕ}
use Rattle.answer.specs.Answer.{OneEnd}
use Rattle.image.proofs.lay.Kinds as lay_kinds
use Rattle.image.proofs.lay.Reads as lay_reads

pub lay_end : OneEnd 1 lay_kinds.ps lay_kinds.r (List ℕ) (λ κs s. s.0.now) lay_reads.Post
lay_end κs a x y s t p q = p.holds ∙ sym q.holds
