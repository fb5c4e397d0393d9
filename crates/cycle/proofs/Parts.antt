-- Laws of bytes in parts: a list is its parts, one part is read or changed and the others stay, a small part is written whole. Assumes nothing.
use Prim.Native.Nat.{ℕ, zero, suc, ◌+◌, ◌<◌, ◌≤◌}
use mathlib.Core.Path.{◌≡◌, refl, sym}
use mathlib.Core.List.{List, [], ◌∷◌, ◌++◌}
use native.Mathlib.Omega.{arith}
use lib.ListN.{length, take, drop, set, take-append-drop, drop_of_length-le}
use lib.Seq.{drop-drop}
use Rattle.codec.specs.Over.{bytes_in}
use Rattle.codec.specs.Pieces.{Piece, piece, joined, Sized, offset, bytes_at, width_at, swapped}
use Rattle.codec.proofs.Overs.{bytes_room, length_in}
use Rattle.codec.proofs.Pieces.{read_piece, part_piece}

-- a list by its parts
abbrev pub parted : List ℕ → ℕ → List ℕ → List Piece
parted [] at b = []
parted (w ∷ ws) at b = piece w (bytes_in w at b) ∷ parted ws (at + w) b

abbrev sum : List ℕ → ℕ
sum [] = 0
sum (w ∷ ws) = w + sum ws

pub parted_sized : (ws : List ℕ) (at : ℕ) (b : List ℕ) → Sized (parted ws at b)
parted_sized [] at b = tt
parted_sized (w ∷ ws) at b = (length_in w at b, parted_sized ws (at + w) b)

pub parted_joined : (ws : List ℕ) (at : ℕ) (b : List ℕ) → at + sum ws ≡ length b → joined (parted ws at b) ≡ drop at b
parted_joined [] at b e = sym (drop_of_length-le b {i = at} (omega arith))
parted_joined (w ∷ ws) at b e =
    let r = parted_joined ws (at + w) b (omega arith) in
    rw (bytes_room w at b (omega arith), r, ← drop-drop w at b) (take-append-drop w (drop at b))

-- what a part that is lent holds, and the whole when it is back
pub lent : (i : ℕ) (ps : List Piece) (b : List ℕ) → b ≡ joined ps → Sized ps → take (width_at i ps) (drop (offset i ps) b) ≡ bytes_at i ps
lent i ps b e z = rw e (read_piece i ps z)

pub back : (i : ℕ) (ps : List Piece) (b v : List ℕ) → b ≡ joined ps → Sized ps → i < length ps
    → take (offset i ps) b ++ (v ++ drop (width_at i ps) (drop (offset i ps) b)) ≡ joined (swapped i v ps)
back i ps b v e z h = rw e (part_piece i ps v z h)

pub sized_back : (i : ℕ) (ps : List Piece) (v : List ℕ) → Sized ps → length v ≡ width_at i ps → Sized (swapped i v ps)
sized_back i [] v z e = tt
sized_back zero (p ∷ ps) v z e = (e, z.1)
sized_back (suc i) (p ∷ ps) v z e = (z.0, sized_back i ps v z.1 e)

-- the first three numbers of others written
pub three : (w : List ℕ) (x y z : ℕ) → 3 ≤ length w → set (set (set w 0 x) 1 y) 2 z ≡ x ∷ y ∷ z ∷ drop 3 w
three (a ∷ b ∷ c ∷ l) x y z e = refl
three [] x y z e = absurd (omega arith)
three (a ∷ []) x y z e = absurd (omega arith)
three (a ∷ b ∷ []) x y z e = absurd (omega arith)
