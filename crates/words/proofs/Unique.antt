-- No second answer, and no second content of lent memory, meets the contract of a public function. Assumes nothing.
use mathlib.Core.Path.{sym, ◌∙◌}
use mathlib.Core.List.{List}
use Prim.Native.Nat.{ℕ}
use mir.Facts.{Fits-lit}
use mir.Syntax.{w64}
use mir.Val.{Fits}
use Rattle.answer.specs.Answer.{OneAnswer, OneEnd}
use Rattle.words.proofs.word_of.Kinds as word_of_kinds
use Rattle.words.proofs.word_of.Reads as word_of_reads
use Rattle.words.proofs.words_in.Kinds as words_in_kinds
use Rattle.words.proofs.words_in.Reads as words_in_reads
use Rattle.words.proofs.numbers_in.Kinds as numbers_in_kinds
use Rattle.words.proofs.numbers_in.Reads as numbers_in_reads
use Rattle.words.proofs.bytes_of.Kinds as bytes_of_kinds
use Rattle.words.proofs.bytes_of.Reads as bytes_of_reads
use Rattle.words.proofs.numbered_record.Kinds as numbered_record_kinds
use Rattle.words.proofs.numbered_record.Reads as numbered_record_reads
use Rattle.words.proofs.record_of.Kinds as record_of_kinds
use Rattle.words.proofs.record_of.Reads as record_of_reads
use Rattle.words.proofs.in_range.Kinds as in_range_kinds
use Rattle.words.proofs.in_range.Reads as in_range_reads
use Rattle.words.proofs.lay_words.Kinds as lay_words_kinds
use Rattle.words.proofs.lay_words.Reads as lay_words_reads
use Rattle.words.proofs.count_at.Kinds as count_at_kinds
use Rattle.words.proofs.count_at.Reads as count_at_reads
use Rattle.words.proofs.add_at.Kinds as add_at_kinds
use Rattle.words.proofs.add_at.Reads as add_at_reads

pub word_of_one : OneAnswer 0 word_of_kinds.ps word_of_kinds.r word_of_reads.Post
word_of_one κs a x y s t p q = p ∙ sym q

-- words_in, of every length
pub words_all_one : (N : ℕ) (f : Fits w64 N) → OneAnswer 2 (words_in_kinds.ps N f) (words_in_kinds.r N f) (words_in_reads.Post N f)
words_all_one N f κs a x y s t p q = p ∙ sym q

abbrev pub fits_12 : Fits w64 12
fits_12 = Fits-lit tt

pub words_in_one : OneAnswer 2 (words_in_kinds.ps 12 fits_12) (words_in_kinds.r 12 fits_12) (words_in_reads.Post 12 fits_12)
words_in_one = words_all_one 12 fits_12

pub record_of_one : OneAnswer 2 record_of_kinds.ps record_of_kinds.r record_of_reads.Post
record_of_one κs a x y s t p q = p ∙ sym q

abbrev pub fits_51 : Fits w64 51
fits_51 = Fits-lit tt

pub figures_in_one : OneAnswer 2 (words_in_kinds.ps 51 fits_51) (words_in_kinds.r 51 fits_51) (words_in_reads.Post 51 fits_51)
figures_in_one = words_all_one 51 fits_51

abbrev pub fits_22 : Fits w64 22
fits_22 = Fits-lit tt

pub second_in_one : OneAnswer 2 (words_in_kinds.ps 22 fits_22) (words_in_kinds.r 22 fits_22) (words_in_reads.Post 22 fits_22)
second_in_one = words_all_one 22 fits_22

-- numbers_in, of every length
pub numbers_all_one : (N : ℕ) (f : Fits w64 N) → OneAnswer 2 (numbers_in_kinds.ps N f) (numbers_in_kinds.r N f) (numbers_in_reads.Post N f)
numbers_all_one N f κs a x y s t p q = p ∙ sym q

abbrev pub fits_23 : Fits w64 23
fits_23 = Fits-lit tt

pub numbers_in_one : OneAnswer 2 (numbers_in_kinds.ps 23 fits_23) (numbers_in_kinds.r 23 fits_23) (numbers_in_reads.Post 23 fits_23)
numbers_in_one = numbers_all_one 23 fits_23

pub bytes_of_one : OneAnswer 0 bytes_of_kinds.ps bytes_of_kinds.r bytes_of_reads.Post
bytes_of_one κs a x y s t p q = p ∙ sym q

pub numbered_record_one : OneAnswer 1 numbered_record_kinds.ps numbered_record_kinds.r numbered_record_reads.Post
numbered_record_one κs a x y s t p q = p ∙ sym q

-- in_range, of every length
pub in_range_all_one : (N : ℕ) (f : Fits w64 N) → OneAnswer 4 (in_range_kinds.ps N f) (in_range_kinds.r N f) (in_range_reads.Post N f)
in_range_all_one N f κs a x y s t p q = p ∙ sym q

pub in_range_one : OneAnswer 4 (in_range_kinds.ps 12 fits_12) (in_range_kinds.r 12 fits_12) (in_range_reads.Post 12 fits_12)
in_range_one = in_range_all_one 12 fits_12

pub lay_words_all_end : (N : ℕ) (f : Fits w64 N) → OneEnd 3 (lay_words_kinds.ps N f) (lay_words_kinds.r N f) (List ℕ) (λ κs s. s.0.now) (lay_words_reads.Post N f)
lay_words_all_end N f κs a x y s t p q = p ∙ sym q

pub lay_words_end : OneEnd 3 (lay_words_kinds.ps 12 fits_12) (lay_words_kinds.r 12 fits_12) (List ℕ) (λ κs s. s.0.now) (lay_words_reads.Post 12 fits_12)
lay_words_end = lay_words_all_end 12 fits_12

pub count_at_end : OneEnd 1 count_at_kinds.ps count_at_kinds.r (List ℕ) (λ κs s. s.0.now) count_at_reads.Post
count_at_end κs a x y s t p q = p ∙ sym q

pub add_at_end : OneEnd 1 add_at_kinds.ps add_at_kinds.r (List ℕ) (λ κs s. s.0.now) add_at_reads.Post
add_at_end κs a x y s t p q = p ∙ sym q
