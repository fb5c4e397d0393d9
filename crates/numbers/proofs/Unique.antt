-- No second answer meets the contract of a public function. Assumes nothing.
use mathlib.Core.Path.{sym, ◌∙◌}
use Rattle.answer.specs.Answer.{OneAnswer}
use Rattle.numbers.proofs.head_bytes.Kinds as head_bytes_kinds
use Rattle.numbers.proofs.head_bytes.Reads as head_bytes_reads
use Rattle.numbers.proofs.head_in.Kinds as head_in_kinds
use Rattle.numbers.proofs.head_in.Reads as head_in_reads
use Rattle.numbers.proofs.align_bytes.Kinds as align_bytes_kinds
use Rattle.numbers.proofs.align_bytes.Reads as align_bytes_reads
use Rattle.numbers.proofs.align_in.Kinds as align_in_kinds
use Rattle.numbers.proofs.align_in.Reads as align_in_reads
use Rattle.numbers.proofs.front_bytes.Kinds as front_bytes_kinds
use Rattle.numbers.proofs.front_bytes.Reads as front_bytes_reads
use Rattle.numbers.proofs.front_in.Kinds as front_in_kinds
use Rattle.numbers.proofs.front_in.Reads as front_in_reads
use Rattle.numbers.proofs.state_bytes.Kinds as state_bytes_kinds
use Rattle.numbers.proofs.state_bytes.Reads as state_bytes_reads
use Rattle.numbers.proofs.state_in.Kinds as state_in_kinds
use Rattle.numbers.proofs.state_in.Reads as state_in_reads

pub head_bytes_one : OneAnswer 0 head_bytes_kinds.ps head_bytes_kinds.r head_bytes_reads.Post
head_bytes_one κs a x y s t p q = p ∙ sym q

pub head_in_one : OneAnswer 0 head_in_kinds.ps head_in_kinds.r head_in_reads.Post
head_in_one κs a x y s t p q = p ∙ sym q

pub align_bytes_one : OneAnswer 0 align_bytes_kinds.ps align_bytes_kinds.r align_bytes_reads.Post
align_bytes_one κs a x y s t p q = p ∙ sym q

pub align_in_one : OneAnswer 0 align_in_kinds.ps align_in_kinds.r align_in_reads.Post
align_in_one κs a x y s t p q = p ∙ sym q

pub front_bytes_one : OneAnswer 0 front_bytes_kinds.ps front_bytes_kinds.r front_bytes_reads.Post
front_bytes_one κs a x y s t p q = p ∙ sym q

pub front_in_one : OneAnswer 0 front_in_kinds.ps front_in_kinds.r front_in_reads.Post
front_in_one κs a x y s t p q = p ∙ sym q

pub state_bytes_one : OneAnswer 0 state_bytes_kinds.ps state_bytes_kinds.r state_bytes_reads.Post
state_bytes_one κs a x y s t p q = p ∙ sym q

pub state_in_one : OneAnswer 0 state_in_kinds.ps state_in_kinds.r state_in_reads.Post
state_in_one κs a x y s t p q = p ∙ sym q
