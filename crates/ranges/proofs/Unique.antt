-- No second answer meets the contract of a public function. Assumes nothing.
use mathlib.Core.Path.{sym, ◌∙◌}
use Prim.Native.Nat.{ℕ}
use mir.Syntax.{w64}
use mir.Val.{Fits}
use Rattle.answer.specs.Answer.{OneAnswer}
use Rattle.ranges.proofs.is_below.Kinds as is_below_kinds
use Rattle.ranges.proofs.is_below.Reads as is_below_reads
use Rattle.ranges.proofs.is_layer_in.Kinds as is_layer_in_kinds
use Rattle.ranges.proofs.is_layer_in.Reads as is_layer_in_reads
use Rattle.ranges.proofs.is_sound.Kinds as is_sound_kinds
use Rattle.ranges.proofs.is_sound.Reads as is_sound_reads

pub is_below_one : (N : ℕ) (f : Fits w64 N) → OneAnswer 3 (is_below_kinds.ps N f) (is_below_kinds.r N f) (is_below_reads.Post N f)
is_below_one N f κs a x y s t p q = p ∙ sym q

pub is_layer_in_one : OneAnswer 2 is_layer_in_kinds.ps is_layer_in_kinds.r is_layer_in_reads.Post
is_layer_in_one κs a x y s t p q = p ∙ sym q

pub is_sound_one : OneAnswer 1 is_sound_kinds.ps is_sound_kinds.r is_sound_reads.Post
is_sound_one κs a x y s t p q = p ∙ sym q
