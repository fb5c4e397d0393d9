-- Wrong answers that the contracts shut out, each for one input. Assumes nothing.
use mathlib.Core.Path.{◌≡◌, ap, sym, ◌∙◌}
use mathlib.Core.Bool.{true, true≢false}
use mathlib.Core.List.{List, ◌∷◌, ◌++◌}
use Prim.Native.Nat.{ℕ, ◌%◌}
use native.Mathlib.Omega.{arith}
use lib.ListN.{get_or, replicate}
use Rattle.answer.specs.Answer.{NoAnswer}
use Rattle.alignment.specs.declared.Alignment.{Alignment}
use Rattle.numbers.specs.declared.Head.{Head}
use Rattle.numbers.specs.declared.Front.{Front}
use Rattle.numbers.specs.declared.State.{State}
use Rattle.numbers.proofs.head_bytes.Kinds as head_bytes_kinds
use Rattle.numbers.proofs.head_bytes.Reads as head_bytes_reads
use Rattle.numbers.proofs.head_in.Kinds as head_in_kinds
use Rattle.numbers.proofs.head_in.Reads as head_in_reads
use Rattle.numbers.proofs.align_bytes.Kinds as align_bytes_kinds
use Rattle.numbers.proofs.align_bytes.Reads as align_bytes_reads
use Rattle.numbers.proofs.align_in.Kinds as align_in_kinds
use Rattle.numbers.proofs.align_in.Reads as align_in_reads
use Rattle.numbers.proofs.front_bytes.Kinds as front_bytes_kinds
use Rattle.numbers.proofs.front_bytes.Reads as front_bytes_reads
use Rattle.numbers.proofs.front_in.Kinds as front_in_kinds
use Rattle.numbers.proofs.front_in.Reads as front_in_reads
use Rattle.numbers.proofs.state_bytes.Kinds as state_bytes_kinds
use Rattle.numbers.proofs.state_bytes.Reads as state_bytes_reads
use Rattle.numbers.proofs.state_in.Kinds as state_in_kinds
use Rattle.numbers.proofs.state_in.Reads as state_in_reads

-- head_bytes: of the seconds the lowest byte comes first
pub seconds_high_first : (h : Head) (x : List ℕ) → h.seconds ≡ 1 → get_or x 28 0 ≡ 0
    → NoAnswer head_bytes_kinds.ps head_bytes_kinds.r head_bytes_reads.Post (h, tt) x
seconds_high_first h x n w s e =
    let z : ◌≡◌ {A = ℕ} 0 1 = sym w ∙ ap (λ (l : List ℕ). get_or l 28 0) e ∙ ap (λ (m : ℕ). m % 256) n in
    omega arith

-- head_in: the seconds end the strip, and do not follow k
pub seconds_after_k : (x : Head) → x.seconds ≡ 1 → NoAnswer head_in_kinds.ps head_in_kinds.r head_in_reads.Post (3 ∷ 1 ∷ replicate 30 0, tt) x
seconds_after_k x w s e =
    let z : ◌≡◌ {A = ℕ} 1 0 = sym w ∙ ap (λ (h : Head). h.seconds) e in
    omega arith

-- align_bytes: the local number comes before the previous MFAS
pub previous_first : (a : Alignment) (x : List ℕ) → a.multi.number ≡ 5 → get_or x 4 0 ≡ 7
    → NoAnswer align_bytes_kinds.ps align_bytes_kinds.r align_bytes_reads.Post (a, tt) x
previous_first a x n w s e =
    let z : ◌≡◌ {A = ℕ} 7 5 = sym w ∙ ap (λ (l : List ℕ). get_or l 4 0) e ∙ n in
    omega arith

-- align_in: 1 is true, and 2 is not
pub two_in_frame : (x : Alignment) → x.framing.inframe ≡ true
    → NoAnswer align_in_kinds.ps align_in_kinds.r align_in_reads.Post (2 ∷ replicate 31 0, tt) x
two_in_frame x w s e = true≢false (sym w ∙ ap (λ (a : Alignment). a.framing.inframe) e)

-- front_bytes: a spare byte is 0
pub spare_one : (f : Front) (x : List ℕ) → get_or x 31 0 ≡ 1 → NoAnswer front_bytes_kinds.ps front_bytes_kinds.r front_bytes_reads.Post (f, tt) x
spare_one f x w s e =
    let z : ◌≡◌ {A = ℕ} 1 0 = sym w ∙ ap (λ (l : List ℕ). get_or l 31 0) e in
    omega arith

-- front_in: DEGThr has four bytes, and not one
pub thr_of_one_byte : (x : Front) → x.thr ≡ 0 → NoAnswer front_in_kinds.ps front_in_kinds.r front_in_reads.Post (0 ∷ 1 ∷ replicate 30 0, tt) x
thr_of_one_byte x w s e =
    let z : ◌≡◌ {A = ℕ} 0 256 = sym w ∙ ap (λ (f : Front). f.thr) e in
    omega arith

-- state_bytes: the near-end blocks come before the far-end blocks
pub far_first : (t : State) (x : List ℕ) → t.blocks.near.0 ≡ 1 → get_or x 24 0 ≡ 0
    → NoAnswer state_bytes_kinds.ps state_bytes_kinds.r state_bytes_reads.Post (t, tt) x
far_first t x n w s e =
    let z : ◌≡◌ {A = ℕ} 0 1 = sym w ∙ ap (λ (l : List ℕ). get_or l 24 0) e ∙ ap (λ (m : ℕ). m % 256) n in
    omega arith

-- state_in: the near-end blocks are not the far-end blocks
pub far_for_near : (x : State) → x.blocks.near.0 ≡ 1
    → NoAnswer state_in_kinds.ps state_in_kinds.r state_in_reads.Post (replicate 28 0 ++ (1 ∷ replicate 3 0), tt) x
far_for_near x w s e =
    let z : ◌≡◌ {A = ℕ} 1 0 = sym w ∙ ap (λ (t : State). t.blocks.near.0) e in
    omega arith

-- state_in: the sum has a word of its own, before the near-end blocks
pub sum_for_near : (x : State) → x.blocks.near.0 ≡ 1
    → NoAnswer state_in_kinds.ps state_in_kinds.r state_in_reads.Post (replicate 20 0 ++ (1 ∷ replicate 11 0), tt) x
sum_for_near x w s e =
    let z : ◌≡◌ {A = ℕ} 1 0 = sym w ∙ ap (λ (t : State). t.blocks.near.0) e in
    omega arith
