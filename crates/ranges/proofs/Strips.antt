-- A part of lent bytes has the bytes that stand there, and bytes too few for a layer are none. Assumes nothing.
use mathlib.Core.Path.{◌≡◌, refl, sym, ◌∙◌}
use mathlib.Core.Bool.{Bool, true, false, ◌&&◌}
use mathlib.Core.List.{List}
use Prim.Native.Nat.{ℕ, ◌+◌, ◌≤◌, ◌<◌}
use native.Mathlib.Omega.{arith}
use lib.ListN.{length, take, drop, replicate, length-drop}
use lib.Seq.{take-take, length-take-le}
use Rattle.codec.specs.Over.{bytes_in}
use Rattle.codec.proofs.Overs.{bytes_room, bytes_beyond}
use Rattle.ranges.specs.Sound.{below, layer_ranged}

-- fewer bytes than a band read as zeros, and DEGM is no 0
pub layer_short : (l g : List ℕ) → length l < 64 → false ≡ layer_ranged g (bytes_in 64 0 l)
unfolding layer_ranged
layer_short l g h = rw (← bytes_beyond 64 0 l h) (none (below g (replicate 64 0)))
  where
    none : (t : Bool) → false ≡ (t && false)
    none true = refl
    none false = refl

-- the first bytes of a part stand where the part begins
pub front_in_lem : (n m o : ℕ) (l : List ℕ) → o + m ≤ length l → n ≤ m → bytes_in n 0 (take m (drop o l)) ≡ bytes_in n o l
front_in_lem n m o l h k =
    bytes_room n 0 (take m (drop o l)) (omega (arith, length-drop o l, length-take-le m (drop o l) (omega (arith, length-drop o l))))
    ∙ take-take n m (drop o l) k
    ∙ sym (bytes_room n o l (omega arith))
