-- Wrong answers that the contracts shut out, each for one input. Assumes nothing.
use mathlib.Core.Path.{◌≡◌}
use mathlib.Core.Bool.{true, false, true≢false, false≢true}
use mathlib.Core.List.{List, [], ◌∷◌, ◌++◌}
use Prim.Native.Nat.{ℕ}
use mir.Syntax.{w64}
use mir.Val.{Fits}
use contract.Lifetimes.{Lfts}
use borrow.Fn.Kinds.{Dens, ended_of}
use denote.Triple.Clauses.{AtExit}
use lib.ListN.{replicate}
use Rattle.codec.specs.Over.{bytes_in}
use Rattle.words.specs.Words.{words_of, words_in}
use Rattle.words.specs.Ranges.{inside}
use Rattle.ranges.specs.Sound.{below, section_greatest, line_ranged, layer_ranged, sound}
use Rattle.ranges.proofs.is_below.Kinds as is_below_kinds
use Rattle.ranges.proofs.is_below.Reads as is_below_reads
use Rattle.ranges.proofs.is_layer_in.Kinds as is_layer_in_kinds
use Rattle.ranges.proofs.is_layer_in.Reads as is_layer_in_reads
use Rattle.ranges.proofs.is_sound.Kinds as is_sound_kinds
use Rattle.ranges.proofs.is_sound.Reads as is_sound_reads

-- is_below, at 2: each byte is tested, and not the last alone
pub first_byte_passed : (f : Fits w64 2) (κs : Lfts 3) (a : Dens κs (is_below_kinds.ps 2 f)) (s : AtExit (ended_of 3 (is_below_kinds.ps 2 f) (is_below_kinds.r 2 f)) κs)
    → a.0.now ≡ 3 ∷ 3 ∷ [] → a.1.0.now ≡ 4 ∷ 0 ∷ [] → is_below_reads.Post 2 f κs a true s → ⊥
unfolding below
first_byte_passed f κs a s g w e = let h : true ≡ below (3 ∷ 3 ∷ []) (4 ∷ 0 ∷ []) = rw (g, w) at e in true≢false h

-- is_below, at 1: a byte may be its greatest
pub greatest_byte_refused : (f : Fits w64 1) (κs : Lfts 3) (a : Dens κs (is_below_kinds.ps 1 f)) (s : AtExit (ended_of 3 (is_below_kinds.ps 1 f) (is_below_kinds.r 1 f)) κs)
    → a.0.now ≡ 3 ∷ [] → a.1.0.now ≡ 3 ∷ [] → is_below_reads.Post 1 f κs a false s → ⊥
unfolding below
greatest_byte_refused f κs a s g w e = let h : false ≡ below (3 ∷ []) (3 ∷ []) = rw (g, w) at e in false≢true h

-- is_layer_in: a strip is no band, even where its own numbers are in their ranges
pub strip_alone : (κs : Lfts 2) (a : Dens κs is_layer_in_kinds.ps) (s : AtExit (ended_of 2 is_layer_in_kinds.ps is_layer_in_kinds.r) κs)
    → a.0.now ≡ 1 ∷ 0 ∷ 0 ∷ 0 ∷ 2 ∷ replicate 27 0 → a.1.0.now ≡ section_greatest → is_layer_in_reads.Post κs a true s → ⊥
unfolding below bytes_in layer_ranged
strip_alone κs a s b g e =
    let h : true ≡ layer_ranged section_greatest (bytes_in 64 0 (1 ∷ 0 ∷ 0 ∷ 0 ∷ 2 ∷ replicate 27 0)) = rw (b, g) at e in
    true≢false h

-- is_layer_in: a byte is tested against its own greatest, and a spare byte is 0
pub spare_byte_passed : (κs : Lfts 2) (a : Dens κs is_layer_in_kinds.ps) (s : AtExit (ended_of 2 is_layer_in_kinds.ps is_layer_in_kinds.r) κs)
    → a.0.now ≡ 1 ∷ 0 ∷ 0 ∷ 0 ∷ 2 ∷ (replicate 36 0 ++ (1 ∷ replicate 246 0)) → a.1.0.now ≡ section_greatest → is_layer_in_reads.Post κs a true s → ⊥
unfolding below bytes_in layer_ranged
spare_byte_passed κs a s b g e =
    let h : true ≡ layer_ranged section_greatest (bytes_in 64 0 (1 ∷ 0 ∷ 0 ∷ 0 ∷ 2 ∷ (replicate 36 0 ++ (1 ∷ replicate 246 0)))) = rw (b, g) at e in
    true≢false h

-- is_sound: no bytes are no supervisor
pub sound_empty : (κs : Lfts 1) (a : Dens κs is_sound_kinds.ps) (s : AtExit (ended_of 1 is_sound_kinds.ps is_sound_kinds.r) κs)
    → a.0.now ≡ [] → is_sound_reads.Post κs a true s → ⊥
unfolding sound
sound_empty κs a s b e =
    let h : true ≡ sound [] = rw b at e in
    true≢false h

-- nor are zeros: k is 1 at least
pub sound_zeros : (κs : Lfts 1) (a : Dens κs is_sound_kinds.ps) (s : AtExit (ended_of 1 is_sound_kinds.ps is_sound_kinds.r) κs)
    → a.0.now ≡ replicate 688 0 → is_sound_reads.Post κs a true s → ⊥
unfolding sound below bytes_in line_ranged
sound_zeros κs a s b e =
    let h : true ≡ sound (replicate 688 0) = rw b at e in
    true≢false h

-- but the least of each number, all others 0, is one
abbrev pub least : List ℕ
least = 1 ∷ (replicate 111 0 ++ ((1 ∷ 0 ∷ 0 ∷ 0 ∷ 2 ∷ replicate 283 0) ++ (1 ∷ 0 ∷ 0 ∷ 0 ∷ 2 ∷ replicate 283 0)))

pub least_refused : (κs : Lfts 1) (a : Dens κs is_sound_kinds.ps) (s : AtExit (ended_of 1 is_sound_kinds.ps is_sound_kinds.r) κs)
    → a.0.now ≡ least → is_sound_reads.Post κs a false s → ⊥
unfolding sound below bytes_in line_ranged layer_ranged words_in words_of inside
least_refused κs a s b e =
    let h : false ≡ sound least = rw b at e in
    false≢true h
