-- No second answer, and no second content of lent memory, meets the contract of a public function. Assumes nothing.
use mathlib.Core.Path.{sym, ◌∙◌}
use mathlib.Core.List.{List}
use Prim.Native.Nat.{ℕ}
use mir.Syntax.{w64}
use mir.Val.{Fits}
use mir.Facts.{Fits-lit}
use Rattle.answer.specs.Answer.{OneAnswer, OneEnd}
use Rattle.codec.proofs.array_in.Kinds as array_in_kinds
use Rattle.codec.proofs.array_in.Reads as array_in_reads
use Rattle.codec.proofs.lay_bytes.Kinds as lay_bytes_kinds
use Rattle.codec.proofs.lay_bytes.Reads as lay_bytes_reads
use Rattle.codec.proofs.pour.Kinds as pour_kinds
use Rattle.codec.proofs.pour.Reads as pour_reads

-- array_in, of every length: of a band and of a strip too
pub array_in_one : (N : ℕ) (f : Fits w64 N) → OneAnswer 2 (array_in_kinds.ps N f) (array_in_kinds.r N f) (array_in_reads.Post N f)
array_in_one N f κs a x y s t p q = p ∙ sym q

abbrev pub band_fits : Fits w64 64
band_fits = Fits-lit tt

abbrev pub strip_fits : Fits w64 32
strip_fits = Fits-lit tt

pub band_in_one : OneAnswer 2 (array_in_kinds.ps 64 band_fits) (array_in_kinds.r 64 band_fits) (array_in_reads.Post 64 band_fits)
band_in_one = array_in_one 64 band_fits

pub strip_in_one : OneAnswer 2 (array_in_kinds.ps 32 strip_fits) (array_in_kinds.r 32 strip_fits) (array_in_reads.Post 32 strip_fits)
strip_in_one = array_in_one 32 strip_fits

-- lay_bytes, of every length: of a band and of a strip too
pub lay_bytes_end : OneEnd 2 lay_bytes_kinds.ps lay_bytes_kinds.r (List ℕ) (λ κs s. s.0.now) lay_bytes_reads.Post
lay_bytes_end κs a x y s t p q = p ∙ sym q

pub lay_band_end : OneEnd 2 lay_bytes_kinds.ps lay_bytes_kinds.r (List ℕ) (λ κs s. s.0.now) lay_bytes_reads.Post
lay_band_end = lay_bytes_end

pub lay_strip_end : OneEnd 2 lay_bytes_kinds.ps lay_bytes_kinds.r (List ℕ) (λ κs s. s.0.now) lay_bytes_reads.Post
lay_strip_end = lay_bytes_end

pub pour_end : OneEnd 2 pour_kinds.ps pour_kinds.r (List ℕ) (λ κs s. s.0.now) pour_reads.Post
pour_end κs a x y s t p q = p ∙ sym q
