-- Laws of an image in pieces: laid one by one it is written whole, and each piece stands at its offset. Assumes nothing.
use mathlib.Core.Path.{◌≡◌, refl, sym, ap, subst, ◌∙◌}
use mathlib.Core.List.{List, [], ◌∷◌, ◌++◌, append_assoc}
use Prim.Native.Nat.{ℕ, zero, suc, ◌+◌, ◌≤◌, ◌<◌}
use native.Mathlib.Omega.{arith}
use lib.ListN.{length, take, drop, set, length-append, length-drop, take-append-drop, drop_of_length-le}
use lib.Seq.{take_at, drop_at, drop-drop, length-take-le, take-append-add, set-append_left}
use Rattle.answer.specs.Over.{over}
use Rattle.codec.specs.Over.{bytes_in, laid}
use Rattle.codec.specs.Pieces.{Piece, joined, Sized, widths, offset, lays, bytes_at, width_at, swapped, cut}
use Rattle.answer.proofs.Overs.{over_nil, over_over, over_length}
use Rattle.codec.proofs.Overs.{laid_room, bytes_room}

pub length_joined : (ps : List Piece) → Sized ps → length (joined ps) ≡ widths ps
length_joined [] z = refl
length_joined (p ∷ ps) z = simp length-append (omega (arith, length_joined ps z.1))

pub lays_over : (d : List ℕ) (at : ℕ) (ps : List Piece) → Sized ps → at + widths ps ≤ length d → lays d at ps ≡ over d at (joined ps)
lays_over d at [] z h = over_nil d at
lays_over d at (p ∷ ps) z h =
    let n : at + length p.bytes ≤ length d = omega arith in
    let e : laid d at p.bytes ≡ over d at p.bytes = laid_room d at p.bytes n in
    let k : at + p.width + widths ps ≤ length (over d at p.bytes) = omega (arith, over_length d at p.bytes n) in
    ap (λ (b : List ℕ). lays b (at + p.width) ps) e
    ∙ lays_over (over d at p.bytes) (at + p.width) ps z.1 k
    ∙ over_over d at (at + p.width) p.bytes (joined ps) (omega arith) (omega arith)

behind : (p : Piece) (ps : List Piece) → length p.bytes ≡ p.width → (n : ℕ) → drop (p.width + n) (p.bytes ++ joined ps) ≡ drop n (joined ps)
behind p ps e n = sym (drop-drop n p.width (p.bytes ++ joined ps)) ∙ ap (drop n) (drop_at p.bytes (joined ps) p.width e)

pub skip : (i : ℕ) (ps : List Piece) → Sized ps → drop (offset i ps) (joined ps) ≡ joined (drop i ps)
skip zero ps z = refl
skip (suc i) [] z = refl
skip (suc i) (p ∷ ps) z = behind p ps z.0 (offset i ps) ∙ skip i ps z.1

-- Reading and writing in place: one piece is read or changed, and the others stay.

-- a piece lies within the whole
fits : (i : ℕ) (ps : List Piece) → Sized ps → offset i ps + width_at i ps ≤ length (joined ps)
fits zero [] z = omega arith
fits (suc i) [] z = omega arith
fits zero (p ∷ ps) z = simp length-append (omega (arith, z.0))
fits (suc i) (p ∷ ps) z = simp length-append (omega (arith, z.0, fits i ps z.1))

pub read_piece : (i : ℕ) (ps : List Piece) → Sized ps → take (width_at i ps) (drop (offset i ps) (joined ps)) ≡ bytes_at i ps
read_piece i [] z = refl
read_piece zero (p ∷ ps) z = take_at p.bytes (joined ps) p.width z.0
read_piece (suc i) (p ∷ ps) z =
    ap (take (width_at i ps)) (behind p ps z.0 (offset i ps)) ∙ read_piece i ps z.1

pub bytes_piece : (i : ℕ) (ps : List Piece) → Sized ps → bytes_in (width_at i ps) (offset i ps) (joined ps) ≡ bytes_at i ps
bytes_piece i ps z = bytes_room (width_at i ps) (offset i ps) (joined ps) (fits i ps z) ∙ read_piece i ps z

-- a part that is lent and comes back with other bytes
pub part_piece : (i : ℕ) (ps : List Piece) (v : List ℕ) → Sized ps → i < length ps
    → take (offset i ps) (joined ps) ++ (v ++ drop (width_at i ps) (drop (offset i ps) (joined ps))) ≡ joined (swapped i v ps)
part_piece i [] v z h = absurd (omega arith)
part_piece zero (p ∷ ps) v z h = ap (λ (r : List ℕ). v ++ r) (drop_at p.bytes (joined ps) p.width z.0)
part_piece (suc i) (p ∷ ps) v z h =
    let front : take (p.width + offset i ps) (p.bytes ++ joined ps) ≡ p.bytes ++ take (offset i ps) (joined ps) =
    subst (λ (n : ℕ). take (n + offset i ps) (p.bytes ++ joined ps) ≡ p.bytes ++ take (offset i ps) (joined ps)) z.0 (take-append-add p.bytes (joined ps) (offset i ps)) in
    rw (front, behind p ps z.0 (offset i ps), append_assoc p.bytes (take (offset i ps) (joined ps)) (v ++ drop (width_at i ps) (drop (offset i ps) (joined ps))))
    (ap (λ (r : List ℕ). p.bytes ++ r) (part_piece i ps v z.1 (omega arith)))

pub laid_piece : (i : ℕ) (ps : List Piece) (v : List ℕ) → Sized ps → i < length ps → length v ≡ width_at i ps
    → laid (joined ps) (offset i ps) v ≡ joined (swapped i v ps)
unfolding over
laid_piece i ps v z h e =
    let o : ℕ = offset i ps in
    let d : List ℕ = joined ps in
    laid_room d o v (omega (arith, fits i ps z))
    ∙ append_assoc (take o d) v (drop (o + length v) d)
    ∙ ap (λ (r : List ℕ). take o d ++ (v ++ r)) (ap (λ (n : ℕ). drop (o + n) d) e ∙ sym (drop-drop (width_at i ps) o d))
    ∙ part_piece i ps v z h

set_behind : (a b : List ℕ) (n x : ℕ) → set (a ++ b) (length a + n) x ≡ a ++ set b n x
set_behind [] b n x = let e : 0 + n ≡ n = omega arith in ap (λ (m : ℕ). set b m x) e
set_behind (y ∷ a) b n x =
    let e : suc (length a) + n ≡ suc (length a + n) = omega arith in
    ap (λ (m : ℕ). set (y ∷ (a ++ b)) m x) e ∙ ap (λ (r : List ℕ). y ∷ r) (set_behind a b n x)

pub set_piece : (i : ℕ) (ps : List Piece) (k x : ℕ) → Sized ps → i < length ps → k < width_at i ps
    → set (joined ps) (offset i ps + k) x ≡ joined (swapped i (set (bytes_at i ps) k x) ps)
set_piece i [] k x z h e = absurd (omega arith)
set_piece zero (p ∷ ps) k x z h e =
    let n : 0 + k ≡ k = omega arith in
    ap (λ (m : ℕ). set (p.bytes ++ joined ps) m x) n ∙ set-append_left p.bytes (joined ps) k x (omega (arith, z.0))
set_piece (suc i) (p ∷ ps) k x z h e =
    let n : p.width + offset i ps + k ≡ length p.bytes + (offset i ps + k) = omega (arith, z.0) in
    ap (λ (m : ℕ). set (p.bytes ++ joined ps) m x) n
    ∙ set_behind p.bytes (joined ps) (offset i ps + k) x
    ∙ ap (λ (r : List ℕ). p.bytes ++ r) (set_piece i ps k x z.1 (omega arith) e)

-- a list is what it is cut into
abbrev sum : List ℕ → ℕ
sum [] = 0
sum (w ∷ ws) = w + sum ws

pub cut_sized : (ws d : List ℕ) → sum ws ≤ length d → Sized (cut ws d)
cut_sized [] d e = tt
cut_sized (w ∷ ws) d e = (length-take-le w d (omega arith), cut_sized ws (drop w d) (omega (arith, length-drop w d)))

pub joined_cut : (ws d : List ℕ) → length d ≤ sum ws → joined (cut ws d) ≡ d
joined_cut [] d e = sym (drop_of_length-le d {i = 0} e)
joined_cut (w ∷ ws) d e =
    ap (λ (r : List ℕ). take w d ++ r) (joined_cut ws (drop w d) (omega (arith, length-drop w d))) ∙ take-append-drop w d
