-- Wrong answers that the contracts shut out, each at one input. Assumes nothing.
use Prim.Native.Nat.{ℕ}
use mathlib.Core.Path.{◌≡◌, sym, ap, ◌∙◌}
use mathlib.Core.Bool.{Bool, true, false, true≢false, false≢true}
use native.Mathlib.Omega.{arith}
use Rattle.answer.specs.Answer.{NoAnswer}
use Rattle.filter.specs.Filter.{up_of}
use Rattle.alignment.specs.declared.Framing.{Framing}
use Rattle.alignment.specs.declared.Lof.{Lof}
use Rattle.alignment.specs.declared.Multi.{Multi}
use Rattle.alignment.specs.declared.Alignment.{Alignment}
use Rattle.alignment.specs.Alignment.{frames_of, framing_of, lof_of, next_of, locked_at, unlocked_at, multi_of, lom_of, fresh_alignment, align_of}
use Rattle.alignment.proofs.frames_of.Kinds as frames_kinds
use Rattle.alignment.proofs.frames_of.Reads as frames_reads
use Rattle.alignment.proofs.align_step.Kinds as align_kinds
use Rattle.alignment.proofs.align_step.Reads as align_reads

-- 3 ms are rounded up, not down
pub n_of_one : NoAnswer frames_kinds.ps frames_kinds.r frames_reads.Post (1, tt) 61
unfolding frames_of
n_of_one s e = let h : ◌≡◌ {A = ℕ} 61 62 = e in omega arith

pub n_of_two : NoAnswer frames_kinds.ps frames_kinds.r frames_reads.Post (2, tt) 246
unfolding frames_of
n_of_two s e = let h : ◌≡◌ {A = ℕ} 246 247 = e in omega arith

pub n_of_three : NoAnswer frames_kinds.ps frames_kinds.r frames_reads.Post (3, tt) 988
unfolding frames_of
n_of_three s e = let h : ◌≡◌ {A = ℕ} 988 989 = e in omega arith

-- x is no answer to a frame of k = 1 met in these states
abbrev NotAfter : Framing → Lof → Multi → ℕ → Bool → Bool → ℕ → Alignment → Type 0
NotAfter framing lof multi lom four three mfas x =
    NoAnswer align_kinds.ps align_kinds.r align_reads.Post (record { framing = framing; lof = lof; multi = multi; lom = lom }, (62, (four, (three, (mfas, tt))))) x

abbrev oof : Framing
oof = fresh_alignment.framing

abbrev inframe : ℕ → Framing
inframe misses = record { inframe = true; seen = false; misses = misses }

abbrev none : Lof
none = fresh_alignment.lof

abbrev oom : Multi
oom = fresh_alignment.multi

-- one frame with columns 2 to 5 is not enough
pub one_is_enough : (x : Alignment) → x.framing.inframe ≡ true → NotAfter oof none oom 0 true true 0 x
unfolding align_of framing_of
one_is_enough x w s e = true≢false (sym w ∙ ap (λ (a : Alignment). a.framing.inframe) e)

-- the fourth frame in a row without columns 3 to 5 leaves IF as it is, the fifth does not
pub four_misses : (x : Alignment) → x.framing.inframe ≡ false → NotAfter (inframe 3) none oom 0 false false 0 x
unfolding align_of framing_of up_of
four_misses x w s e = false≢true (sym w ∙ ap (λ (a : Alignment). a.framing.inframe) e)

pub five_misses : (x : Alignment) → x.framing.inframe ≡ true → NotAfter (inframe 4) none oom 0 false false 0 x
unfolding align_of framing_of up_of
five_misses x w s e = true≢false (sym w ∙ ap (λ (a : Alignment). a.framing.inframe) e)

-- the total of OOF stops at N, and the N-th frame in a row in IF sets it to zero
pub total_beyond : (x : Alignment) → x.lof.total ≡ 63 → NotAfter oof (record { total = 62; good = 0 }) oom 0 false false 0 x
unfolding align_of framing_of lof_of up_of
total_beyond x w s e = let h : ◌≡◌ {A = ℕ} 63 62 = sym w ∙ ap (λ (a : Alignment). a.lof.total) e in omega arith

pub total_kept : (x : Alignment) → x.lof.total ≡ 62 → NotAfter (inframe 0) (record { total = 62; good = 61 }) oom 0 false true 0 x
unfolding align_of framing_of lof_of up_of
total_kept x w s e = let h : ◌≡◌ {A = ℕ} 62 0 = sym w ∙ ap (λ (a : Alignment). a.lof.total) e in omega arith

-- the multiframe looks at the frame state after the frame: the MFAS of the frame that enters IF is known
pub state_before : (x : Alignment) → x.multi.known ≡ false → NotAfter (record { inframe = false; seen = true; misses = 0 }) none oom 0 true true 7 x
unfolding align_of framing_of multi_of
state_before x w s e = false≢true (sym w ∙ ap (λ (a : Alignment). a.multi.known) e)

-- the fourth mismatch in a row leaves IM as it is; the MFAS of the fifth is the new previous one
pub four_mismatches : (x : Alignment) → x.multi.inmulti ≡ false → NotAfter (inframe 0) none (locked_at 9 3) 0 false true 0 x
unfolding align_of framing_of multi_of next_of up_of
four_mismatches x w s e = false≢true (sym w ∙ ap (λ (a : Alignment). a.multi.inmulti) e)

pub fifth_forgotten : (x : Alignment) → x.multi.known ≡ false → NotAfter (inframe 0) none (locked_at 9 4) 0 false true 0 x
unfolding align_of framing_of multi_of next_of up_of
fifth_forgotten x w s e = false≢true (sym w ∙ ap (λ (a : Alignment). a.multi.known) e)

-- in OOF the run of mismatches stays, the local number grows, modulo 256, and the previous MFAS is forgotten
pub mismatches_reset : (x : Alignment) → x.multi.misses ≡ 0 → NotAfter oof none (locked_at 9 4) 0 false false 0 x
unfolding align_of framing_of multi_of
mismatches_reset x w s e = let h : ◌≡◌ {A = ℕ} 0 4 = sym w ∙ ap (λ (a : Alignment). a.multi.misses) e in omega arith

pub number_stays : (x : Alignment) → x.multi.number ≡ 255 → NotAfter oof none (locked_at 255 0) 0 false false 0 x
unfolding align_of framing_of multi_of next_of
number_stays x w s e = let h : ◌≡◌ {A = ℕ} 255 0 = sym w ∙ ap (λ (a : Alignment). a.multi.number) e in omega arith

pub previous_kept : (x : Alignment) → x.multi.known ≡ true → NotAfter oof none (unlocked_at true 9) 0 false false 10 x
unfolding align_of framing_of multi_of
previous_kept x w s e = true≢false (sym w ∙ ap (λ (a : Alignment). a.multi.known) e)

-- dLOM's run goes on in OOF, and IM clears it at once
pub lom_pauses : (x : Alignment) → x.lom ≡ 5 → NotAfter oof none oom 5 false false 0 x
unfolding align_of framing_of multi_of lom_of up_of
lom_pauses x w s e = let h : ◌≡◌ {A = ℕ} 5 6 = sym w ∙ ap (λ (a : Alignment). a.lom) e in omega arith

pub lom_stays : (x : Alignment) → x.lom ≡ 62 → NotAfter (inframe 0) none (unlocked_at true 9) 62 false true 10 x
unfolding align_of framing_of multi_of next_of lom_of
lom_stays x w s e = let h : ◌≡◌ {A = ℕ} 62 0 = sym w ∙ ap (λ (a : Alignment). a.lom) e in omega arith
