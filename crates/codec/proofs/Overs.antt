-- Laws of writing over: a byte, one writing after another, all of the bytes. Assumes nothing.
use Prim.Native.Nat.{ℕ, ◌+◌, ◌-◌, ◌≤◌, ◌<◌}
use mathlib.Core.Path.{◌≡◌, refl, ◌∙◌, ap, sym}
use mathlib.Core.List.{List, [], ◌∷◌, ◌++◌, append-nil, append_assoc}
use native.Mathlib.Omega.{arith}
use lib.Dec.{leb}
use lib.ListN.{length, get_or, take, drop, replicate, length-drop, length-replicate, drop_of_length-le}
use lib.Seq.{drop-drop, take_all, length-take-le, get_or-take, get_or-drop}
use borrow.Author.Tests.{le-leb, lt-leb, leb-true}
use Rattle.answer.proofs.Cond.{by_cond}
use Rattle.answer.specs.Over.{over}
use Rattle.answer.proofs.Overs.{over_nil}
use Rattle.codec.specs.Over.{bytes_in, laid, poured}
use borrow.Rule.Slice.PartMut.{put_mid}
use Rattle.std.proofs.Common.{min}
use Rattle.std.proofs.lemmas.List.{take_min}

-- all of the bytes
pub over_all : (d v : List ℕ) → length v ≡ length d → over d 0 v ≡ v
unfolding over
over_all d v e =
    let h : length d ≤ 0 + length v = omega arith in
    rw (drop_of_length-le d {i = 0 + length v} h) (append-nil v)

-- where there is room
pub laid_room : (d : List ℕ) (at : ℕ) (v : List ℕ) → at + length v ≤ length d → laid d at v ≡ over d at v
unfolding laid
laid_room d at v h = rw (le-leb (at + length v) (length d) h)

-- bytes that are no more than what is left from a place on
pub laid_within : (d : List ℕ) (at : ℕ) (v : List ℕ) → length v ≤ length d - at → laid d at v ≡ over d at v
unfolding laid
laid_within d at [] h = by_cond (λ (l : List ℕ). l ≡ over d at []) (leb (at + 0) (length d)) (λ _. refl) (λ _. over_nil d at)
laid_within d at (x ∷ v) h = laid_room d at (x ∷ v) (omega arith)

-- what a slice holds once v has been copied over a part of it
pub put_over : (d v w : List ℕ) (at k : ℕ) → w ≡ v → k ≡ length v → put_mid at k d w ≡ over d at v
unfolding over
put_over d v w at k e n =
    ap (λ (x : List ℕ). put_mid at k d x) e
    ∙ ap (λ (m : ℕ). put_mid at m d v) n
    ∙ ap (λ (r : List ℕ). take at d ++ (v ++ r)) (drop-drop (length v) at d)
    ∙ sym (append_assoc (take at d) v (drop (at + length v) d))

pub put_laid : (d v w : List ℕ) (at k : ℕ) → w ≡ v → k ≡ length v → at + length v ≤ length d → put_mid at k d w ≡ laid d at v
put_laid d v w at k e n h = put_over d v w at k e n ∙ sym (laid_room d at v h)

-- the first of v, as many as there is room for, in front of what is behind them
pub put_poured : (d v w : List ℕ) (n : ℕ) → n ≡ min (length d) (length v) → w ≡ take n v → w ++ drop n d ≡ poured d v
unfolding poured over
put_poured d v w n e h =
    let t : take n v ≡ take (length d) v = ap (λ (m : ℕ). take m v) e ∙ take_min (length d) v in
    let k : n ≡ 0 + length (take (length d) v) = omega (arith, ap length t, length-take-le n v (omega arith)) in
    rw (h, t) (ap (λ (m : ℕ). take (length d) v ++ drop m d) k)

-- what a writing leaves that asks first whether there is room for its k bytes
pub laid_done : (d : List ℕ) (at k : ℕ) (v o : List ℕ) → length v ≡ k → at + k ≤ length d → o ≡ over d at v → o ≡ laid d at v
laid_done d at k v o e h w = w ∙ sym (laid_room d at v (omega arith))

pub laid_kept : (d : List ℕ) (at k : ℕ) (v : List ℕ) → length v ≡ k → length d < at + k → d ≡ laid d at v
unfolding laid
laid_kept d at k v e h =
    let g : length d < at + length v = omega arith in
    rw (lt-leb (at + length v) (length d) g)

-- where there is room for just v
pub poured_all : (d v : List ℕ) → length v ≡ length d → poured d v ≡ v
unfolding poured
poured_all d v e = ap (over d 0) (take_all (length d) v (omega arith)) ∙ over_all d v e

-- bytes read within others, and beyond them
pub bytes_room : (n at : ℕ) (l : List ℕ) → at + n ≤ length l → bytes_in n at l ≡ take n (drop at l)
unfolding bytes_in
bytes_room n at l h = rw (le-leb (at + n) (length l) h)

pub bytes_beyond : (n at : ℕ) (l : List ℕ) → length l < at + n → replicate n 0 ≡ bytes_in n at l
unfolding bytes_in
bytes_beyond n at l h = rw (lt-leb (at + n) (length l) h)

-- bytes that are read are as many as are asked for, and each is the byte of its place
pub length_in : (n at : ℕ) (l : List ℕ) → length (bytes_in n at l) ≡ n
unfolding bytes_in
length_in n at l =
    by_cond (λ (x : List ℕ). length x ≡ n) (leb (at + n) (length l))
    (λ t. let h = leb-true (at + n) (length l) t in length-take-le n (drop at l) (omega (arith, length-drop at l)))
    (λ _. length-replicate n 0)

pub byte_in : (n at i j : ℕ) (l : List ℕ) → at + n ≤ length l → i < n → at + i ≡ j → get_or (bytes_in n at l) i 0 ≡ get_or l j 0
byte_in n at i j l h k e =
    ap (λ (x : List ℕ). get_or x i 0) (bytes_room n at l h) ∙ get_or-take n (drop at l) i 0 k ∙ get_or-drop at l i 0 ∙ ap (λ (m : ℕ). get_or l m 0) e

pub all_in : (n : ℕ) (l : List ℕ) → length l ≡ n → bytes_in n 0 l ≡ l
all_in n l e = bytes_room n 0 l (omega arith) ∙ take_all n l (omega arith)
