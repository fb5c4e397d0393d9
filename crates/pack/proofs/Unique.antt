-- No second answer, and no second content of the lent output, meets the contract of a public function. Assumes nothing.
use mathlib.Core.Path.{sym, ◌∙◌}
use mathlib.Core.List.{List}
use Prim.Native.Nat.{ℕ}
use Rattle.answer.specs.Answer.{OneAnswer, OneEnd}
use Rattle.pack.proofs.summarize.Kinds as summarize_kinds
use Rattle.pack.proofs.summarize.Reads as summarize_reads
use Rattle.pack.proofs.join_bytes.Kinds as join_kinds
use Rattle.pack.proofs.join_bytes.Reads as join_reads

pub summarize_one : OneAnswer 2 summarize_kinds.ps summarize_kinds.r summarize_reads.Post
summarize_one κs a x y s t p q = p.answers ∙ sym q.answers

pub summarize_end : OneEnd 2 summarize_kinds.ps summarize_kinds.r (List ℕ) (λ κs s. s.1.0.now) summarize_reads.Post
summarize_end κs a x y s t p q = p.fills ∙ sym q.fills

pub join_one : OneAnswer 3 join_kinds.ps join_kinds.r join_reads.Post
join_one κs a x y s t p q = p.answers ∙ sym q.answers

pub join_end : OneEnd 3 join_kinds.ps join_kinds.r (List ℕ) (λ κs s. s.1.1.0.now) join_reads.Post
join_end κs a x y s t p q = p.fills ∙ sym q.fills
