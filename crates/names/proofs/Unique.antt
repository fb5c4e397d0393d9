-- No second answer meets the contracts of this crate. Assumes nothing.
use mathlib.Core.Path.{sym, ◌∙◌}
use Rattle.answer.specs.Answer.{OneAnswer}
use Rattle.names.proofs.same_trace.Kinds as same_trace_kinds
use Rattle.names.proofs.same_trace.Reads as same_trace_reads
use Rattle.names.proofs.compare.Kinds as compare_kinds
use Rattle.names.proofs.compare.Reads as compare_reads

pub same_trace_one : OneAnswer 2 same_trace_kinds.ps same_trace_kinds.r same_trace_reads.Post
same_trace_one κs a x y s t p q = p ∙ sym q

pub compare_one : OneAnswer 2 compare_kinds.ps compare_kinds.r compare_reads.Post
compare_one κs a x y s t p q = p.answers ∙ sym q.answers
