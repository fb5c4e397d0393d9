-- Wrong answers that the contracts shut out, each for one input. Assumes nothing.
use mathlib.Core.Path.{◌≡◌, ap, sym, ◌∙◌}
use mathlib.Core.Bool.{true, false, true≢false, false≢true}
use mathlib.Core.List.{List, [], ◌∷◌, ◌++◌}
use Prim.Native.Nat.{ℕ}
use native.Mathlib.Omega.{arith}
use contract.Lifetimes.{Lfts}
use borrow.Fn.Kinds.{Dens, ended_of}
use denote.Triple.Clauses.{AtExit}
use lib.ListN.{get_or, replicate}
use Rattle.answer.specs.Over.{over}
use Rattle.codec.specs.Over.{bytes_in, laid}
use Rattle.words.specs.Words.{added_in}
use Rattle.overhead.specs.declared.Field.{Field}
use Rattle.overhead.specs.Overhead.{far_block}
use Rattle.overhead.specs.Bei.{bei_of, path_bei}
use Rattle.filter.specs.Filter.{up_of, add_of, filter_of}
use Rattle.filter.specs.Stat.{in_row, stat_of}
use Rattle.second.specs.Second.{counted_of}
use Rattle.level.specs.declared.LevelStands.{LevelStands}
use Rattle.level.specs.Status.{status_of, status_for, raises_ltc}
use Rattle.ranges.specs.Sound.{below, layer_ranged}
use Rattle.rack.specs.Rack.{level_numbers, level_record, level_sound}
use Rattle.rack.proofs.level_at.Kinds as level_at_kinds
use Rattle.rack.proofs.level_at.Reads as level_at_reads
use Rattle.rack.proofs.level_sound.Kinds as level_sound_kinds
use Rattle.rack.proofs.level_sound.Reads as level_sound_reads

-- level_at: bytes that are no record are not written
pub level_beyond : (κs : Lfts 1) (a : Dens κs level_at_kinds.ps) (x : LevelStands) (s : AtExit (ended_of 1 level_at_kinds.ps level_at_kinds.r) κs)
    → a.0.now ≡ 7 ∷ [] → s.0.now ≡ 0 ∷ [] → level_at_reads.Post κs a x s → ⊥
level_beyond κs a x s b end e =
    let h : ◌≡◌ {A = List ℕ} (0 ∷ []) (7 ∷ []) = sym end ∙ rw b at e.holds in
    let z : ◌≡◌ {A = ℕ} 0 7 = ap (λ (l : List ℕ). get_or l 0 0) h in
    omega arith

-- a field by its BEI, IAE and STAT
abbrev shown : ℕ → ℕ → Field
shown bei stat = record { tti = 0; bei = bei; bdi = false; iae = true; stat = stat }

-- a record whose STAT has been v in two frames
abbrev twice : ℕ → List ℕ
twice v = replicate 41 0 ++ (v ∷ 2 ∷ replicate 245 0)

-- level_at: a near-end block is not counted under dLTC, which stands in the third frame of STAT 000
pub counted_under_ltc : (κs : Lfts 1) (a : Dens κs level_at_kinds.ps) (x : LevelStands) (s : AtExit (ended_of 1 level_at_kinds.ps level_at_kinds.r) κs)
    → a.0.now ≡ twice 0 → a.1.0 ≡ false → a.1.1.1.0 ≡ shown 0 0 → a.1.1.1.1.0 ≡ 1 → get_or s.0.now 56 0 ≡ 1
    → level_at_reads.Post κs a x s → ⊥
unfolding bytes_in laid over level_record level_numbers bei_of path_bei far_block counted_of added_in add_of status_for status_of stat_of in_row up_of
counted_under_ltc κs a x s b ssf f v end e =
    let z : ◌≡◌ {A = ℕ} 1 0 = sym end ∙ ap (λ (l : List ℕ). get_or l 56 0) (rw (b, ssf, f, v) at e.holds) in
    omega arith

-- level_at: nor are the eight violations of a BEI added to the sum
pub summed_under_ltc : (κs : Lfts 1) (a : Dens κs level_at_kinds.ps) (x : LevelStands) (s : AtExit (ended_of 1 level_at_kinds.ps level_at_kinds.r) κs)
    → a.0.now ≡ twice 0 → a.1.0 ≡ false → a.1.1.1.0 ≡ shown 8 0 → a.1.1.1.1.0 ≡ 0 → get_or s.0.now 52 0 ≡ 8
    → level_at_reads.Post κs a x s → ⊥
unfolding bytes_in laid over level_record level_numbers bei_of path_bei far_block counted_of added_in add_of status_for status_of stat_of in_row up_of
summed_under_ltc κs a x s b ssf f v end e =
    let z : ◌≡◌ {A = ℕ} 8 0 = sym end ∙ ap (λ (l : List ℕ). get_or l 52 0) (rw (b, ssf, f, v) at e.holds) in
    omega arith

-- level_at: 1011 is the mark, and adds no eleven violations
pub eleven_added : (κs : Lfts 1) (a : Dens κs level_at_kinds.ps) (x : LevelStands) (s : AtExit (ended_of 1 level_at_kinds.ps level_at_kinds.r) κs)
    → a.0.now ≡ replicate 288 0 → a.1.0 ≡ false → a.1.1.1.0 ≡ shown 11 0 → a.1.1.1.1.0 ≡ 0 → get_or s.0.now 52 0 ≡ 11
    → level_at_reads.Post κs a x s → ⊥
unfolding bytes_in laid over level_record level_numbers bei_of path_bei far_block counted_of added_in add_of status_for stat_of in_row up_of
eleven_added κs a x s b ssf f v end e =
    let z : ◌≡◌ {A = ℕ} 11 0 = sym end ∙ ap (λ (l : List ℕ). get_or l 52 0) (rw (b, ssf, f, v) at e.holds) in
    omega arith

-- level_at: zeros are no accepted STAT, so the first frame of STAT 000 has no dLTC
pub ltc_at_once : (κs : Lfts 1) (a : Dens κs level_at_kinds.ps) (x : LevelStands) (s : AtExit (ended_of 1 level_at_kinds.ps level_at_kinds.r) κs)
    → a.0.now ≡ replicate 288 0 → a.1.0 ≡ false → a.1.1.1.0 ≡ shown 0 0 → raises_ltc x.status ≡ true
    → level_at_reads.Post κs a x s → ⊥
unfolding status_for stat_of in_row up_of
ltc_at_once κs a x s b ssf f ltc e =
    true≢false (sym ltc ∙ ap (λ (d : LevelStands). raises_ltc d.status) (rw (b, ssf, f) at e.answers))

-- level_at: the IAE bit is not a level's, and runs no filter
pub iae_bit_counted : (κs : Lfts 1) (a : Dens κs level_at_kinds.ps) (x : LevelStands) (s : AtExit (ended_of 1 level_at_kinds.ps level_at_kinds.r) κs)
    → a.0.now ≡ replicate 288 0 → a.1.0 ≡ false → a.1.1.1.0 ≡ shown 0 1 → get_or s.0.now 38 0 ≡ 1
    → level_at_reads.Post κs a x s → ⊥
unfolding bytes_in level_record level_numbers
iae_bit_counted κs a x s b ssf f end e =
    let z : ◌≡◌ {A = ℕ} 1 0 = sym end ∙ ap (λ (l : List ℕ). get_or l 38 0) (rw (b, ssf, f) at e.holds) in
    omega arith

-- level_at: dBIAE is forgotten in dAIS, which stands in the third frame of STAT 111
pub biae_in_ais : (κs : Lfts 1) (a : Dens κs level_at_kinds.ps) (x : LevelStands) (s : AtExit (ended_of 1 level_at_kinds.ps level_at_kinds.r) κs)
    → a.0.now ≡ twice 7 → a.1.0 ≡ false → a.1.1.1.0 ≡ shown 11 7 → get_or s.0.now 40 0 ≡ 1
    → level_at_reads.Post κs a x s → ⊥
unfolding bytes_in level_record level_numbers bei_of status_for status_of stat_of in_row up_of filter_of
biae_in_ais κs a x s b ssf f end e =
    let z : ◌≡◌ {A = ℕ} 1 0 = sym end ∙ ap (λ (l : List ℕ). get_or l 40 0) (rw (b, ssf, f) at e.holds) in
    omega arith

-- level_sound: no bytes are no record
pub level_empty : (κs : Lfts 1) (a : Dens κs level_sound_kinds.ps) (s : AtExit (ended_of 1 level_sound_kinds.ps level_sound_kinds.r) κs)
    → a.0.now ≡ [] → level_sound_reads.Post κs a true s → ⊥
unfolding level_sound
level_empty κs a s b e =
    let h : true ≡ level_sound [] = rw b at e in
    true≢false h

-- nor are zeros: DEGM is 2 at least, DEGThr 1
pub level_zeros : (κs : Lfts 1) (a : Dens κs level_sound_kinds.ps) (s : AtExit (ended_of 1 level_sound_kinds.ps level_sound_kinds.r) κs)
    → a.0.now ≡ replicate 288 0 → level_sound_reads.Post κs a true s → ⊥
unfolding level_sound below bytes_in layer_ranged
level_zeros κs a s b e =
    let h : true ≡ level_sound (replicate 288 0) = rw b at e in
    true≢false h

-- the least of each number, all others 0; and a byte of the filter of a section's dIAE
abbrev least : ℕ → List ℕ
least iae = 1 ∷ 0 ∷ 0 ∷ 0 ∷ 2 ∷ (replicate 33 0 ++ (iae ∷ replicate 249 0))

-- the least is one
pub least_level_refused : (κs : Lfts 1) (a : Dens κs level_sound_kinds.ps) (s : AtExit (ended_of 1 level_sound_kinds.ps level_sound_kinds.r) κs)
    → a.0.now ≡ least 0 → level_sound_reads.Post κs a false s → ⊥
unfolding level_sound below bytes_in layer_ranged
least_level_refused κs a s b e =
    let h : false ≡ level_sound (least 0) = rw b at e in
    false≢true h

-- but not with a run of dIAE's filter, which a level does not have
pub iae_run_passed : (κs : Lfts 1) (a : Dens κs level_sound_kinds.ps) (s : AtExit (ended_of 1 level_sound_kinds.ps level_sound_kinds.r) κs)
    → a.0.now ≡ least 1 → level_sound_reads.Post κs a true s → ⊥
unfolding level_sound below bytes_in layer_ranged
iae_run_passed κs a s b e =
    let h : true ≡ level_sound (least 1) = rw b at e in
    true≢false h
