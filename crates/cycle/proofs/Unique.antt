-- No second answer, and no second content of lent memory, meets the contract of the public function. Assumes nothing.
use mathlib.Core.Path.{sym, ◌∙◌}
use mathlib.Core.List.{List}
use Prim.Native.Nat.{ℕ}
use Rattle.answer.specs.Answer.{OneAnswer, OneEnd}
use Rattle.cycle.proofs.trace_at.Kinds as trace_at_kinds
use Rattle.cycle.proofs.trace_at.Reads as trace_at_reads

pub trace_at_one : OneAnswer 1 trace_at_kinds.ps trace_at_kinds.r trace_at_reads.Post
trace_at_one κs a x y s t p q = p.answers ∙ sym q.answers

pub trace_at_end : OneEnd 1 trace_at_kinds.ps trace_at_kinds.r (List ℕ) (λ κs s. s.0.now) trace_at_reads.Post
trace_at_end κs a x y s t p q = p.holds ∙ sym q.holds
