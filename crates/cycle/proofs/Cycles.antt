-- A layer's three traces after a frame have their sizes. Assumes nothing.
use Prim.Native.Nat.{ℕ, ◌%◌}
use mathlib.Core.Path.{◌≡◌, ◌∙◌}
use mathlib.Core.Bool.{Bool, true, false, cond}
use mathlib.Core.List.{List, [], ◌∷◌}
use lib.ListN.{length, length-set}
use Rattle.codec.proofs.Overs.{length_in}
use Rattle.codec.specs.Pieces.{Piece, piece, Sized}
use Rattle.codec.proofs.Pieces.{length_joined}
use Rattle.filter.specs.Filter.{quiet}
use Rattle.alignment.specs.declared.Multi.{Multi}
use Rattle.layer.specs.declared.Layer.{Layer}
use Rattle.layer.specs.Steps.{takes, closes, accepts}
use Rattle.layer.specs.declared.Cycle.{Cycle}
use Rattle.cycle.specs.Cycle.{traced, cycle_step, traces_of}

abbrev T : List ℕ → List ℕ → List ℕ → List Piece
T a g p = piece 64 a ∷ piece 64 g ∷ piece 64 p ∷ []

choice : (t : Bool) (x y : List ℕ) (n : ℕ) → length x ≡ n → length y ≡ n → length (cond t x y) ≡ n
choice true x y n h k = h
choice false x y n h k = k

-- after a frame each of the three has its 64 bytes
pub cycle_sizes : (b : List ℕ) (c : Cycle) (forget : Bool) (m : Multi) (tti : ℕ) → let l : Layer = cycle_step b c forget m tti in Sized (T l.accepted l.gathered l.previous)
cycle_sizes b c forget m tti =
    let l : Layer = traced b c in
    let g = choice (takes l forget m.inmulti m.number tti quiet) _ l.gathered 64 (length-set l.gathered (m.number % 64) tti ∙ length_in 64 64 b) (length_in 64 64 b) in (
      choice (accepts l forget m.inmulti m.number tti quiet) _ l.accepted 64 g (length_in 64 0 b),
      (g, (choice (closes l forget m.inmulti m.number tti quiet) _ l.previous 64 g (length_in 64 128 b), tt)),
    )

pub cycle_long : (b : List ℕ) (c : Cycle) (forget : Bool) (m : Multi) (tti : ℕ) → length (traces_of (cycle_step b c forget m tti)) ≡ 192
cycle_long b c forget m tti =
    let l : Layer = cycle_step b c forget m tti in
    length_joined (T l.accepted l.gathered l.previous) (cycle_sizes b c forget m tti)
