-- No second answer meets the contract of a public function. Assumes nothing.
use mathlib.Core.Path.{sym, ◌∙◌}
use Rattle.answer.specs.Answer.{OneAnswer}
use Rattle.record.proofs.length_of.Kinds as length_kinds
use Rattle.record.proofs.length_of.Reads as length_reads
use Rattle.record.proofs.refusal_in.Kinds as refusal_kinds
use Rattle.record.proofs.refusal_in.Reads as refusal_reads
use Rattle.record.proofs.frames_in.Kinds as frames_kinds
use Rattle.record.proofs.frames_in.Reads as frames_reads
use Rattle.record.proofs.record_at.Kinds as record_kinds
use Rattle.record.proofs.record_at.Reads as record_reads
use Rattle.record.proofs.section_in.Kinds as section_kinds
use Rattle.record.proofs.section_in.Reads as section_reads
use Rattle.record.proofs.path_in.Kinds as path_kinds
use Rattle.record.proofs.path_in.Reads as path_reads
use Rattle.record.proofs.level_in.Kinds as level_kinds
use Rattle.record.proofs.level_in.Reads as level_reads

pub length_one : OneAnswer 0 length_kinds.ps length_kinds.r length_reads.Post
length_one κs a x y s t p q = p ∙ sym q

pub refusal_one : OneAnswer 0 refusal_kinds.ps refusal_kinds.r refusal_reads.Post
refusal_one κs a x y s t p q = p ∙ sym q

pub frames_one : OneAnswer 0 frames_kinds.ps frames_kinds.r frames_reads.Post
frames_one κs a x y s t p q = p ∙ sym q

pub record_one : OneAnswer 1 record_kinds.ps record_kinds.r record_reads.Post
record_one κs a x y s t p q = p ∙ sym q

pub section_one : OneAnswer 1 section_kinds.ps section_kinds.r section_reads.Post
section_one κs a x y s t p q = p ∙ sym q

pub path_one : OneAnswer 1 path_kinds.ps path_kinds.r path_reads.Post
path_one κs a x y s t p q = p ∙ sym q

pub level_one : OneAnswer 1 level_kinds.ps level_kinds.r level_reads.Post
level_one κs a x y s t p q = p ∙ sym q
