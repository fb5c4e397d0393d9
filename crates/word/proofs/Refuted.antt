-- Wrong answers that the contracts shut out, each for one input. Assumes nothing.
use mathlib.Core.Path.{◌≡◌}
use mathlib.Core.Bool.{true}
use Prim.Native.Nat.{ℕ}
use native.Mathlib.Omega.{arith}
use contract.Lifetimes.{Lfts}
use borrow.Fn.Kinds.{ended_of}
use denote.Triple.Clauses.{AtExit}
use Rattle.causes.specs.declared.Report.{Report}
use Rattle.level.specs.declared.LevelStands.{LevelStands}
use Rattle.level.specs.declared.LevelActions.{LevelActions}
use Rattle.level.specs.declared.LevelCauses.{LevelCauses}
use Rattle.word.specs.Report.{report_word}
use Rattle.word.specs.Level.{level_word}
use Rattle.word.proofs.level_word.Kinds as level_word_kinds
use Rattle.word.proofs.level_word.Reads as level_word_reads
use Rattle.word.proofs.report_word.Kinds as report_word_kinds
use Rattle.word.proofs.report_word.Reads as report_word_reads

-- report_word: the low byte is the refusal's, and the head does not stand in it
pub head_in_low_byte : (κs : Lfts 0) (r : Report) (x : ℕ) (s : AtExit (ended_of 0 report_word_kinds.ps report_word_kinds.r) κs)
    → x ≡ 3 → report_word_reads.Post κs (r, tt) x s → ⊥
unfolding report_word
head_in_low_byte κs r x s h e = let z : x ≡ report_word r = e in omega arith

-- level_word: a level that is provisioned does not answer 0, whatever stands of it
pub provisioned_untold : (κs : Lfts 0) (d : LevelStands) (a : LevelActions) (c : LevelCauses) (s : AtExit (ended_of 0 level_word_kinds.ps level_word_kinds.r) κs)
    → level_word_reads.Post κs (true, (d, (a, (c, tt)))) 0 s → ⊥
unfolding level_word
provisioned_untold κs d a c s e = let z : 0 ≡ level_word true d a c = e in omega arith
