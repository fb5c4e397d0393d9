-- No second answer meets the contracts of this crate. Assumes nothing.
use mathlib.Core.Path.{sym, ◌∙◌}
use Rattle.answer.specs.Answer.{OneAnswer}
use Rattle.word.proofs.level_word.Kinds as level_word_kinds
use Rattle.word.proofs.level_word.Reads as level_word_reads
use Rattle.word.proofs.report_word.Kinds as report_word_kinds
use Rattle.word.proofs.report_word.Reads as report_word_reads

pub report_word_one : OneAnswer 0 report_word_kinds.ps report_word_kinds.r report_word_reads.Post
report_word_one κs a x y s t p q = p ∙ sym q

pub level_word_one : OneAnswer 0 level_word_kinds.ps level_word_kinds.r level_word_reads.Post
level_word_one κs a x y s t p q = p ∙ sym q
