-- The record of a level as it is provisioned, laid part by part, six blank ones behind a strip of zeros, and the test of a blank one. Assumes nothing.
use mathlib.Core.Path.{◌≡◌, refl, sym, ap, ◌∙◌}
use mathlib.Core.Bool.{Bool, true, false, cond, false≢true}
use mathlib.Core.List.{List, ◌++◌}
use Prim.Native.Nat.{ℕ}
use native.Mathlib.Omega.{arith}
use borrow.Author.Tests.{eq-eqb}
use lib.ListN.{length, take, replicate}
use Rattle.answer.proofs.Overs.{over_start}
use Rattle.codec.specs.Over.{laid, bytes_in}
use Rattle.codec.specs.Pieces.{Piece, joined, Sized, lays}
use Rattle.codec.proofs.Overs.{laid_room, over_all, length_in}
use Rattle.codec.proofs.Pieces.{length_joined, lays_over}
use Rattle.names.specs.Names.{same_trace}
use Rattle.names.proofs.Same.{same_eq, same_trace_lem}
use Rattle.settings.specs.declared.Options.{Options}
use Rattle.level.specs.Level.{fresh_level, fresh_level_second}
use Rattle.supervisor.specs.Supervisor.{blank_options}
use Rattle.numbers.specs.Numbers.{front_bytes}
use Rattle.numbers.specs.Held.{Held, held_pieces, held_bytes}
use Rattle.ranges.specs.Sound.{below, layer_ranged}
use Rattle.rack.specs.Rack.{level_held, level_greatest, level_sound}
use Rattle.bay.specs.Bay.{chained, each_record, fresh_record, blank_numbers, blank_rule}

module _ (p : Options) (z : length p.names ≡ 32) where
  abbrev held : Held
  held = level_held p fresh_level fresh_level_second

  sized : Sized (held_pieces held)
  sized = (refl, (refl, (refl, (refl, (refl, (z, tt))))))

  pub fresh_laid : (f r0 r1 r2 r3 r4 r5 r6 : List ℕ) → length r0 ≡ 288 → f ≡ front_bytes held.front → r1 ≡ laid r0 0 f
      → r2 ≡ laid r1 32 (replicate 32 0) → r3 ≡ laid r2 64 (replicate 64 0) → r4 ≡ laid r3 128 (replicate 64 0) → r5 ≡ laid r4 192 (replicate 64 0)
      → r6 ≡ laid r5 256 p.names → r6 ≡ fresh_record p
  unfolding held_bytes
  fresh_laid f r0 r1 r2 r3 r4 r5 r6 n ef e1 e2 e3 e4 e5 e6 =
      let ps : List Piece = held_pieces held in
      let l : length (joined ps) ≡ length r0 = length_joined ps sized ∙ sym n in
      let e : r6 ≡ lays r0 0 ps = e6 ∙ rw (e5, e4, e3, e2, e1, ef) in
      e ∙ lays_over r0 0 ps sized (omega arith) ∙ over_all r0 (joined ps) l

-- a strip of zeros, and each record blank
pub blank_laid : (b b1 b2 : List ℕ) → length b ≡ 1760 → b1 ≡ laid b 0 (replicate 32 0) → b2 ≡ each_record blank_rule b1
    → b2 ≡ replicate 32 0 ++ chained (replicate 6 (fresh_record blank_options))
blank_laid b b1 b2 n e1 e2 =
    let s : take 32 b1 ≡ replicate 32 0 = ap (take 32) (e1 ∙ laid_room b 0 (replicate 32 0) (omega arith)) ∙ over_start b (replicate 32 0) 32 refl in
    e2 ∙ ap (λ (x : List ℕ). x ++ chained (replicate 6 (fresh_record blank_options))) s

-- a blank level's numbers are in their ranges, whatever else its record holds
blank_ranged : layer_ranged level_greatest blank_numbers ≡ true
unfolding layer_ranged below held_bytes
blank_ranged = refl

pub blank_sound : (r : List ℕ) (given : Bool) → length r ≡ 288 → cond given false (same_trace (bytes_in 64 0 r) blank_numbers) ≡ true → level_sound r ≡ true
unfolding level_sound held_bytes
blank_sound r true n e = absurd (false≢true e)
blank_sound r false n e =
    let w : List ℕ = bytes_in 64 0 r in
    let l : length w ≡ 64 = length_in 64 0 r in
    let q : w ≡ blank_numbers = same_eq w blank_numbers (sym (same_trace_lem w blank_numbers l refl) ∙ e) in
    rw (eq-eqb (length r) 288 n, q) blank_ranged
