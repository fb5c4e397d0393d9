-- Wrong answers that the contracts shut out, each for one input. Assumes nothing.
use mathlib.Core.Path.{◌≡◌, ap, sym, ◌∙◌}
use mathlib.Core.Bool.{true, true≢false}
use mathlib.Core.List.{List, ◌∷◌, ◌++◌}
use Prim.Native.Nat.{ℕ}
use mir.Syntax.{w64}
use mir.Val.{Fits}
use native.Mathlib.Omega.{arith}
use contract.Lifetimes.{Lfts}
use borrow.Fn.Kinds.{Dens, ended_of}
use denote.Triple.Clauses.{AtExit}
use lib.ListN.{get_or, replicate}
use Rattle.answer.specs.Answer.{NoAnswer}
use Rattle.answer.specs.Over.{over}
use Rattle.codec.specs.Over.{laid}
use Rattle.filter.specs.Filter.{up_of, add_of}
use Rattle.words.specs.Words.{flat, words_of, words_in, counted_in, added_in, flat8, numbers_of, numbers_in}
use Rattle.words.specs.Ranges.{inside}
use Rattle.words.proofs.word_of.Kinds as word_of_kinds
use Rattle.words.proofs.word_of.Reads as word_of_reads
use Rattle.words.proofs.words_in.Kinds as words_in_kinds
use Rattle.words.proofs.words_in.Reads as words_in_reads
use Rattle.words.proofs.numbers_in.Kinds as numbers_in_kinds
use Rattle.words.proofs.numbers_in.Reads as numbers_in_reads
use Rattle.words.proofs.bytes_of.Kinds as bytes_of_kinds
use Rattle.words.proofs.bytes_of.Reads as bytes_of_reads
use Rattle.words.proofs.numbered_record.Kinds as numbered_record_kinds
use Rattle.words.proofs.numbered_record.Reads as numbered_record_reads
use Rattle.words.proofs.lay_words.Kinds as lay_words_kinds
use Rattle.words.proofs.lay_words.Reads as lay_words_reads
use Rattle.words.proofs.record_of.Kinds as record_of_kinds
use Rattle.words.proofs.record_of.Reads as record_of_reads
use Rattle.words.proofs.in_range.Kinds as in_range_kinds
use Rattle.words.proofs.in_range.Reads as in_range_reads
use Rattle.words.proofs.count_at.Kinds as count_at_kinds
use Rattle.words.proofs.count_at.Reads as count_at_reads
use Rattle.words.proofs.add_at.Kinds as add_at_kinds
use Rattle.words.proofs.add_at.Reads as add_at_reads

-- word_of: the first byte is the lowest
pub highest_first : NoAnswer word_of_kinds.ps word_of_kinds.r word_of_reads.Post (1, (0, (0, (0, tt)))) 16777216
highest_first s e = let z : ◌≡◌ {A = ℕ} 16777216 1 = e in omega arith

-- words_in, at 12: the second byte of a word counts 256, and not 65,536
pub bytes_swapped : (f : Fits w64 12) (κs : Lfts 2) (a : Dens κs (words_in_kinds.ps 12 f)) (x : List ℕ) (s : AtExit (ended_of 2 (words_in_kinds.ps 12 f) (words_in_kinds.r 12 f)) κs)
    → a.0.now ≡ 0 ∷ 1 ∷ replicate 46 0 → a.1.0 ≡ 0 → get_or x 0 0 ≡ 65536 → words_in_reads.Post 12 f κs a x s → ⊥
unfolding words_in words_of
bytes_swapped f κs a x s b at w e =
    let h : x ≡ words_in 12 0 (0 ∷ 1 ∷ replicate 46 0) = rw (b, at) at e in
    let z : ◌≡◌ {A = ℕ} 65536 256 = sym w ∙ ap (λ (l : List ℕ). get_or l 0 0) h in
    omega arith

-- lay_words, at 12: where there is no room for all of them nothing is laid
pub words_in_part : (f : Fits w64 12) (κs : Lfts 3) (a : Dens κs (lay_words_kinds.ps 12 f)) (s : AtExit (ended_of 3 (lay_words_kinds.ps 12 f) (lay_words_kinds.r 12 f)) κs)
    → a.0.now ≡ replicate 47 0 → a.1.0 ≡ 0 → a.1.1.0.now ≡ replicate 12 7 → get_or s.0.now 0 0 ≡ 7 → lay_words_reads.Post 12 f κs a tt s → ⊥
unfolding laid over flat
words_in_part f κs a s b at t end e =
    let h : s.0.now ≡ laid (replicate 47 0) 0 (flat (replicate 12 7)) = rw (b, at, t) at e in
    let z : ◌≡◌ {A = ℕ} 7 0 = sym end ∙ ap (λ (l : List ℕ). get_or l 0 0) h in
    omega arith

-- record_of: the first word comes first
pub words_reversed : (κs : Lfts 2) (a : Dens κs record_of_kinds.ps) (x : List ℕ) (s : AtExit (ended_of 2 record_of_kinds.ps record_of_kinds.r) κs)
    → a.0.now ≡ 1 ∷ replicate 21 0 → a.1.0.now ≡ replicate 30 0 → get_or x 0 0 ≡ 0 → record_of_reads.Post κs a x s → ⊥
unfolding flat
words_reversed κs a x s v z w e =
    let h : x ≡ flat ((1 ∷ replicate 21 0) ++ replicate 30 0) = rw (v, z) at e in
    let n : ◌≡◌ {A = ℕ} 0 1 = sym w ∙ ap (λ (l : List ℕ). get_or l 0 0) h in
    omega arith

-- words_in, at 51: with no room for all of them none is read
pub figures_in_part : (f : Fits w64 51) (κs : Lfts 2) (a : Dens κs (words_in_kinds.ps 51 f)) (x : List ℕ) (s : AtExit (ended_of 2 (words_in_kinds.ps 51 f) (words_in_kinds.r 51 f)) κs)
    → a.0.now ≡ replicate 203 1 → a.1.0 ≡ 0 → get_or x 0 0 ≡ 16843009 → words_in_reads.Post 51 f κs a x s → ⊥
unfolding words_in
figures_in_part f κs a x s b at w e =
    let h : x ≡ words_in 51 0 (replicate 203 1) = rw (b, at) at e in
    let z : ◌≡◌ {A = ℕ} 16843009 0 = sym w ∙ ap (λ (l : List ℕ). get_or l 0 0) h in
    omega arith

-- numbered_record: the number comes first
pub number_last : (κs : Lfts 1) (a : Dens κs numbered_record_kinds.ps) (x : List ℕ) (s : AtExit (ended_of 1 numbered_record_kinds.ps numbered_record_kinds.r) κs)
    → a.0 ≡ 1 → a.1.0.now ≡ replicate 51 0 → get_or x 0 0 ≡ 0 → numbered_record_reads.Post κs a x s → ⊥
unfolding flat
number_last κs a x s n v w e =
    let h : x ≡ flat (1 ∷ replicate 51 0) = rw (n, v) at e in
    let z : ◌≡◌ {A = ℕ} 0 1 = sym w ∙ ap (λ (l : List ℕ). get_or l 0 0) h in
    omega arith

-- in_range, at 12: every number is tested, and not the last alone
pub last_alone : (f : Fits w64 12) (κs : Lfts 4) (a : Dens κs (in_range_kinds.ps 12 f)) (s : AtExit (ended_of 4 (in_range_kinds.ps 12 f) (in_range_kinds.r 12 f)) κs)
    → a.0.now ≡ replicate 12 0 → a.1.0.now ≡ replicate 12 0 → a.1.1.0.now ≡ 1 ∷ replicate 11 0 → in_range_reads.Post 12 f κs a true s → ⊥
unfolding inside
last_alone f κs a s lo hi w e = let h : true ≡ inside (replicate 12 0) (replicate 12 0) (1 ∷ replicate 11 0) = rw (lo, hi, w) at e in true≢false h

-- count_at: 256 comes after 255
pub carry_lost : (κs : Lfts 1) (a : Dens κs count_at_kinds.ps) (s : AtExit (ended_of 1 count_at_kinds.ps count_at_kinds.r) κs)
    → a.0.now ≡ 255 ∷ replicate 3 0 → a.1.0 ≡ 0 → a.1.1.0 ≡ 400000 → get_or s.0.now 1 0 ≡ 0 → count_at_reads.Post κs a tt s → ⊥
unfolding counted_in laid over up_of
carry_lost κs a s b i n end e =
    let h : s.0.now ≡ counted_in (255 ∷ replicate 3 0) 0 400000 = rw (b, i, n) at e in
    let z : ◌≡◌ {A = ℕ} 0 1 = sym end ∙ ap (λ (l : List ℕ). get_or l 1 0) h in
    omega arith

-- count_at: no count goes beyond its greatest
pub counted_beyond : (κs : Lfts 1) (a : Dens κs count_at_kinds.ps) (s : AtExit (ended_of 1 count_at_kinds.ps count_at_kinds.r) κs)
    → a.0.now ≡ 7 ∷ replicate 3 0 → a.1.0 ≡ 0 → a.1.1.0 ≡ 7 → get_or s.0.now 0 0 ≡ 8 → count_at_reads.Post κs a tt s → ⊥
unfolding counted_in laid over up_of
counted_beyond κs a s b i n end e =
    let h : s.0.now ≡ counted_in (7 ∷ replicate 3 0) 0 7 = rw (b, i, n) at e in
    let z : ◌≡◌ {A = ℕ} 8 7 = sym end ∙ ap (λ (l : List ℕ). get_or l 0 0) h in
    omega arith

-- add_at: what would go beyond the greatest comes to it, and is not left out
pub added_or_not : (κs : Lfts 1) (a : Dens κs add_at_kinds.ps) (s : AtExit (ended_of 1 add_at_kinds.ps add_at_kinds.r) κs)
    → a.0.now ≡ 3 ∷ replicate 3 0 → a.1.0 ≡ 0 → a.1.1.0 ≡ 8 → a.1.1.1.0 ≡ 7 → get_or s.0.now 0 0 ≡ 3 → add_at_reads.Post κs a tt s → ⊥
unfolding added_in laid over add_of
added_or_not κs a s b i more n end e =
    let h : s.0.now ≡ added_in (3 ∷ replicate 3 0) 0 8 7 = rw (b, i, more, n) at e in
    let z : ◌≡◌ {A = ℕ} 3 7 = sym end ∙ ap (λ (l : List ℕ). get_or l 0 0) h in
    omega arith

-- words_in, at 22: with no room for all of them none is read
pub second_in_part : (f : Fits w64 22) (κs : Lfts 2) (a : Dens κs (words_in_kinds.ps 22 f)) (x : List ℕ) (s : AtExit (ended_of 2 (words_in_kinds.ps 22 f) (words_in_kinds.r 22 f)) κs)
    → a.0.now ≡ replicate 87 1 → a.1.0 ≡ 0 → get_or x 0 0 ≡ 16843009 → words_in_reads.Post 22 f κs a x s → ⊥
unfolding words_in
second_in_part f κs a x s b at w e =
    let h : x ≡ words_in 22 0 (replicate 87 1) = rw (b, at) at e in
    let z : ◌≡◌ {A = ℕ} 16843009 0 = sym w ∙ ap (λ (l : List ℕ). get_or l 0 0) h in
    omega arith

-- numbers_in, at 23: the fifth byte of a number counts 2 ^ 32
pub low_word_alone : (f : Fits w64 23) (κs : Lfts 2) (a : Dens κs (numbers_in_kinds.ps 23 f)) (x : List ℕ) (s : AtExit (ended_of 2 (numbers_in_kinds.ps 23 f) (numbers_in_kinds.r 23 f)) κs)
    → a.0.now ≡ 0 ∷ 0 ∷ 0 ∷ 0 ∷ 1 ∷ replicate 179 0 → get_or x 0 0 ≡ 0 → numbers_in_reads.Post 23 f κs a x s → ⊥
unfolding numbers_in numbers_of
low_word_alone f κs a x s b w e =
    let h : x ≡ numbers_in 23 (0 ∷ 0 ∷ 0 ∷ 0 ∷ 1 ∷ replicate 179 0) = rw b at e in
    let z : ◌≡◌ {A = ℕ} 0 4294967296 = sym w ∙ ap (λ (l : List ℕ). get_or l 0 0) h in
    omega arith

-- bytes_of: the lowest byte of a number stands first
pub number_reversed : (κs : Lfts 0) (x : List ℕ) (s : AtExit (ended_of 0 bytes_of_kinds.ps bytes_of_kinds.r) κs)
    → get_or x 7 0 ≡ 1 → bytes_of_reads.Post κs (1 ∷ replicate 22 0, tt) x s → ⊥
unfolding flat8
number_reversed κs x s w e =
    let z : ◌≡◌ {A = ℕ} 1 0 = sym w ∙ ap (λ (l : List ℕ). get_or l 7 0) e in
    omega arith
