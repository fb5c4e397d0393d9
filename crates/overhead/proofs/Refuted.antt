-- Wrong answers that the contracts shut out, each at one input. Assumes nothing.
use Prim.Native.Nat.{ℕ}
use mathlib.Core.Path.{◌≡◌, sym, ap, ◌∙◌}
use mathlib.Core.Bool.{true, false, true≢false, false≢true}
use mathlib.Core.List.{List, [], ◌∷◌, ◌++◌}
use native.Mathlib.Omega.{arith}
use contract.Lifetimes.{Lfts}
use borrow.Fn.Kinds.{Dens, ended_of}
use denote.Triple.Clauses.{AtExit}
use lib.ListN.{replicate}
use Rattle.answer.specs.Answer.{NoAnswer}
use Rattle.overhead.specs.declared.Field.{Field}
use Rattle.overhead.specs.declared.Overhead.{Overhead}
use Rattle.overhead.specs.Overhead.{three_of, four_of, field_of, overhead_of, level_field, far_block}
use Rattle.overhead.specs.Bei.{path_bei, bei_of, is_far, is_biae}
use Rattle.overhead.specs.declared.Bei.TheVariants.{None, Number, Biae}
use Rattle.overhead.proofs.overhead_of.Kinds as overhead_kinds
use Rattle.overhead.proofs.overhead_of.Reads as overhead_reads
use Rattle.overhead.proofs.level_field.Kinds as level_kinds
use Rattle.overhead.proofs.level_field.Reads as level_reads
use Rattle.overhead.proofs.bei_of.Kinds as bei_of_kinds
use Rattle.overhead.proofs.bei_of.Reads as bei_of_reads
use Rattle.overhead.proofs.path_bei.Kinds as path_bei_kinds
use Rattle.overhead.proofs.path_bei.Reads as path_bei_reads
use Rattle.overhead.proofs.is_far.Kinds as is_far_kinds
use Rattle.overhead.proofs.is_far.Reads as is_far_reads
use Rattle.overhead.proofs.violations.Kinds as violations_kinds
use Rattle.overhead.proofs.violations.Reads as violations_reads
use Rattle.overhead.proofs.is_mark.Kinds as is_mark_kinds
use Rattle.overhead.proofs.is_mark.Reads as is_mark_reads

-- 0 and 9 to 15 are no number, 8 is one
pub bei_zero : NoAnswer bei_of_kinds.ps bei_of_kinds.r bei_of_reads.Post (0, tt) (Number 0)
unfolding far_block path_bei bei_of
bei_zero s e = true≢false (ap is_far e)

pub bei_nine : NoAnswer bei_of_kinds.ps bei_of_kinds.r bei_of_reads.Post (9, tt) (Number 9)
unfolding far_block path_bei bei_of
bei_nine s e = true≢false (ap is_far e)

pub bei_eight : NoAnswer path_bei_kinds.ps path_bei_kinds.r path_bei_reads.Post (8, tt) None
unfolding far_block path_bei
bei_eight s e = false≢true (ap is_far e)

-- 1011 is not eleven violations, and in the path it is not the mark
pub bei_eleven : NoAnswer bei_of_kinds.ps bei_of_kinds.r bei_of_reads.Post (11, tt) (Number 11)
unfolding bei_of
bei_eleven s e = true≢false (ap is_far e)

pub path_mark : NoAnswer path_bei_kinds.ps path_bei_kinds.r path_bei_reads.Post (11, tt) Biae
unfolding far_block path_bei
path_mark s e = true≢false (ap is_biae e)

-- the mark is no far block
pub mark_far : NoAnswer is_far_kinds.ps is_far_kinds.r is_far_reads.Post (Biae, tt) true
mark_far s e = true≢false e

-- a number is so many violations, and not one
pub number_for_one : NoAnswer violations_kinds.ps violations_kinds.r violations_reads.Post (Number 8, tt) 1
number_for_one s e = let h : ◌≡◌ {A = ℕ} 1 8 = e in omega arith

-- no number is the mark
pub number_mark : NoAnswer is_mark_kinds.ps is_mark_kinds.r is_mark_reads.Post (Number 8, tt) true
number_mark s e = true≢false e

-- what bytes that end early show
module _ (κs : Lfts 1) (a : Dens κs overhead_kinds.ps) (s : AtExit (ended_of 1 overhead_kinds.ps overhead_kinds.r) κs) (x : Overhead) (e : overhead_reads.Post κs a x s) where
  shows : (bytes : List ℕ) → a.0.now ≡ bytes → x ≡ overhead_of bytes
  shows bytes b = e ∙ ap overhead_of b

  -- column 1 is never looked at
  pub column_one : a.0.now ≡ 0 ∷ 0xF6 ∷ 0xF6 ∷ 0x28 ∷ 0x28 ∷ [] → x.four ≡ false → ⊥
  unfolding overhead_of four_of three_of
  column_one b w = false≢true (sym w ∙ ap (λ (o : Overhead). o.four) (shows _ b))

  -- columns 3 to 5 are not enough for four
  pub column_two : a.0.now ≡ 0xF6 ∷ 0 ∷ 0xF6 ∷ 0x28 ∷ 0x28 ∷ [] → x.four ≡ true → ⊥
  unfolding overhead_of four_of three_of
  column_two b w = true≢false (sym w ∙ ap (λ (o : Overhead). o.four) (shows _ b))

  -- MFAS is column 7
  pub mfas_late : a.0.now ≡ replicate 6 0 ++ (9 ∷ 5 ∷ []) → x.mfas ≡ 5 → ⊥
  unfolding overhead_of
  mfas_late b w = let h : ◌≡◌ {A = ℕ} 5 9 = sym w ∙ ap (λ (o : Overhead). o.mfas) (shows _ b) in omega arith

  -- BDI is bit 5 of the status byte, and bit 4 is the lowest of BEI
  pub bdi_bit_four : a.0.now ≡ replicate 9 0 ++ (16 ∷ []) → x.section.bdi ≡ true → ⊥
  unfolding overhead_of field_of
  bdi_bit_four b w = true≢false (sym w ∙ ap (λ (o : Overhead). o.section.bdi) (shows _ b))

  -- STAT has three bits
  pub stat_two_bits : a.0.now ≡ replicate 43 0 ++ (7 ∷ []) → x.path.stat ≡ 3 → ⊥
  unfolding overhead_of field_of
  stat_two_bits b w = let h : ◌≡◌ {A = ℕ} 3 7 = sym w ∙ ap (λ (o : Overhead). o.path.stat) (shows _ b) in omega arith

-- what they show of a tandem level
module _ (κs : Lfts 1) (a : Dens κs level_kinds.ps) (s : AtExit (ended_of 1 level_kinds.ps level_kinds.r) κs) (x : Field) (e : level_reads.Post κs a x s) where
  shows_at : (bytes : List ℕ) (level : ℕ) → a.0.now ≡ bytes → a.1.0 ≡ level → x ≡ level_field bytes level
  shows_at bytes level b l = e ∙ ap (λ (o : List ℕ). level_field o a.1.0) b ∙ ap (level_field bytes) l

  -- TCM2 is not read from TCM3's columns
  pub two_for_three : a.0.now ≡ replicate 32 0 ++ (9 ∷ []) → a.1.0 ≡ 2 → x.tti ≡ 9 → ⊥
  unfolding level_field field_of
  two_for_three b l w = let h : ◌≡◌ {A = ℕ} 9 0 = sym w ∙ ap (λ (f : Field). f.tti) (shows_at _ 2 b l) in omega arith

  -- TCM4 to TCM6 do not go on where TCM3 leaves off: TCM4 is row 2 column 11, and not three columns before TCM3
  pub four_after_three : a.0.now ≡ replicate 29 0 ++ (9 ∷ []) → a.1.0 ≡ 4 → x.tti ≡ 9 → ⊥
  unfolding level_field field_of
  four_after_three b l w = let h : ◌≡◌ {A = ℕ} 9 0 = sym w ∙ ap (λ (f : Field). f.tti) (shows_at _ 4 b l) in omega arith

  -- levels count from 1
  pub level_zero : a.0.now ≡ replicate 38 0 ++ (9 ∷ []) → a.1.0 ≡ 0 → x.tti ≡ 9 → ⊥
  unfolding level_field field_of
  level_zero b l w = let h : ◌≡◌ {A = ℕ} 9 0 = sym w ∙ ap (λ (f : Field). f.tti) (shows_at _ 0 b l) in omega arith

  -- BIP-8 stands between the TTI byte and the status byte
  pub bip_for_status : a.0.now ≡ replicate 39 0 ++ (7 ∷ []) → a.1.0 ≡ 1 → x.stat ≡ 7 → ⊥
  unfolding level_field field_of
  bip_for_status b l w = let h : ◌≡◌ {A = ℕ} 7 0 = sym w ∙ ap (λ (f : Field). f.stat) (shows_at _ 1 b l) in omega arith
