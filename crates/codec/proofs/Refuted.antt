-- Wrong answers that the contracts shut out, each for one input. Assumes nothing.
use mathlib.Core.Path.{◌≡◌, ap, sym, ◌∙◌}
use mathlib.Core.List.{List, [], ◌∷◌}
use Prim.Native.Nat.{ℕ}
use mir.Syntax.{w64}
use mir.Val.{Fits}
use native.Mathlib.Omega.{arith}
use contract.Lifetimes.{Lfts}
use borrow.Fn.Kinds.{Dens, ended_of}
use denote.Triple.Clauses.{AtExit}
use lib.ListN.{length, get_or, replicate}
use Rattle.answer.specs.Over.{over}
use Rattle.codec.specs.Over.{bytes_in, laid, poured}
use Rattle.codec.proofs.array_in.Kinds as array_in_kinds
use Rattle.codec.proofs.array_in.Reads as array_in_reads
use Rattle.codec.proofs.lay_bytes.Kinds as lay_bytes_kinds
use Rattle.codec.proofs.lay_bytes.Reads as lay_bytes_reads
use Rattle.codec.proofs.pour.Kinds as pour_kinds
use Rattle.codec.proofs.pour.Reads as pour_reads

-- array_in, at 64: beyond the bytes a trace is zeros, and not sevens
pub sevens_beyond : (f : Fits w64 64) (κs : Lfts 2) (a : Dens κs (array_in_kinds.ps 64 f)) (s : AtExit (ended_of 2 (array_in_kinds.ps 64 f) (array_in_kinds.r 64 f)) κs)
    → a.0.now ≡ [] → a.1.0 ≡ 0 → array_in_reads.Post 64 f κs a (replicate 64 7) s → ⊥
unfolding bytes_in
sevens_beyond f κs a s b at e =
    let h : replicate 64 7 ≡ bytes_in 64 0 [] = rw (b, at) at e in
    let z : ◌≡◌ {A = ℕ} 7 0 = ap (λ (l : List ℕ). get_or l 0 0) h in
    omega arith

-- array_in, at 32: bytes are read from their place, and not from the start
pub read_from_start : (f : Fits w64 32) (κs : Lfts 2) (a : Dens κs (array_in_kinds.ps 32 f)) (s : AtExit (ended_of 2 (array_in_kinds.ps 32 f) (array_in_kinds.r 32 f)) κs)
    → a.0.now ≡ 9 ∷ replicate 32 0 → a.1.0 ≡ 1 → array_in_reads.Post 32 f κs a (9 ∷ replicate 31 0) s → ⊥
unfolding bytes_in
read_from_start f κs a s b at e =
    let h : 9 ∷ replicate 31 0 ≡ bytes_in 32 1 (9 ∷ replicate 32 0) = rw (b, at) at e in
    let z : ◌≡◌ {A = ℕ} 9 0 = ap (λ (l : List ℕ). get_or l 0 0) h in
    omega arith

-- lay_bytes: where there is no room for all of them nothing is laid, and not the first of them
pub bytes_in_part : (κs : Lfts 2) (a : Dens κs lay_bytes_kinds.ps) (s : AtExit (ended_of 2 lay_bytes_kinds.ps lay_bytes_kinds.r) κs)
    → a.0.now ≡ 0 ∷ 0 ∷ [] → a.1.0 ≡ 1 → a.1.1.0.now ≡ 7 ∷ 7 ∷ [] → s.0.now ≡ 0 ∷ 7 ∷ [] → lay_bytes_reads.Post κs a tt s → ⊥
unfolding laid over
bytes_in_part κs a s b at v end e =
    let h : 0 ∷ 7 ∷ [] ≡ laid (0 ∷ 0 ∷ []) 1 (7 ∷ 7 ∷ []) = sym end ∙ rw (b, at, v) at e in
    let z : ◌≡◌ {A = ℕ} 7 0 = ap (λ (l : List ℕ). get_or l 1 0) h in
    omega arith

-- lay_bytes, of 64: the bytes behind what is laid stay
pub rest_cut : (κs : Lfts 2) (a : Dens κs lay_bytes_kinds.ps) (s : AtExit (ended_of 2 lay_bytes_kinds.ps lay_bytes_kinds.r) κs)
    → a.0.now ≡ replicate 65 0 → a.1.0 ≡ 0 → a.1.1.0.now ≡ replicate 64 7 → s.0.now ≡ replicate 64 7 → lay_bytes_reads.Post κs a tt s → ⊥
unfolding laid over
rest_cut κs a s b at t end e =
    let h : replicate 64 7 ≡ laid (replicate 65 0) 0 (replicate 64 7) = sym end ∙ rw (b, at, t) at e in
    let z : ◌≡◌ {A = ℕ} 64 65 = ap length h in
    omega arith

-- lay_bytes, of 32: where there is no room for all of them nothing is laid
pub strip_in_part : (κs : Lfts 2) (a : Dens κs lay_bytes_kinds.ps) (s : AtExit (ended_of 2 lay_bytes_kinds.ps lay_bytes_kinds.r) κs)
    → a.0.now ≡ replicate 31 0 → a.1.0 ≡ 0 → a.1.1.0.now ≡ replicate 32 7 → s.0.now ≡ replicate 31 7 → lay_bytes_reads.Post κs a tt s → ⊥
unfolding laid over
strip_in_part κs a s b at t end e =
    let h : replicate 31 7 ≡ laid (replicate 31 0) 0 (replicate 32 7) = sym end ∙ rw (b, at, t) at e in
    let z : ◌≡◌ {A = ℕ} 7 0 = ap (λ (l : List ℕ). get_or l 0 0) h in
    omega arith

-- pour: no more is poured than there is room for
pub pours_more : (κs : Lfts 2) (a : Dens κs pour_kinds.ps) (s : AtExit (ended_of 2 pour_kinds.ps pour_kinds.r) κs)
    → a.0.now ≡ 0 ∷ [] → a.1.0.now ≡ 7 ∷ 7 ∷ [] → s.0.now ≡ 7 ∷ 7 ∷ [] → pour_reads.Post κs a tt s → ⊥
unfolding poured over
pours_more κs a s b v end e =
    let h : 7 ∷ 7 ∷ [] ≡ poured (0 ∷ []) (7 ∷ 7 ∷ []) = sym end ∙ rw (b, v) at e in
    let z : ◌≡◌ {A = ℕ} 2 1 = ap length h in
    omega arith
