-- Laws of bytes against their greatest: one byte more of the test, each byte's bound, and back from the bounds. Assumes nothing.
use mathlib.Core.Path.{◌≡◌, refl, sym, ap, ◌∙◌}
use mathlib.Core.Bool.{Bool, true, false, ◌&&◌, false≢true}
use mathlib.Core.List.{List, [], ◌∷◌, ◌++◌}
use Prim.Native.Nat.{ℕ, zero, suc, ◌+◌, ◌%◌, ◌≤◌, ◌<◌, zero-le, suc-le-suc}
use native.Mathlib.Numerals.{add-one}
use native.Mathlib.Omega.{arith}
use lib.Dec.{leb}
use lib.ListN.{length, get_or, take, drop, replicate, length-drop, length-replicate, get_or-replicate, drop_of_length-le}
use lib.Seq.{drop-cons, length-take-le, get_or-take, get_or-drop}
use borrow.Author.Tests.{leb-true, le-leb}
use Rattle.answer.specs.Bits.{flag}
use Rattle.answer.proofs.Cond.{and_left, and_right}
use Rattle.codec.specs.Over.{bytes_in}
use Rattle.codec.proofs.Overs.{bytes_room}
use Rattle.ranges.specs.Sound.{below}

-- one more byte of the test
pub below_step : (hs bs : List ℕ) (i : ℕ) → i < length hs → i < length bs
    → below (drop i hs) (drop i bs) ≡ (leb (get_or bs i 0) (get_or hs i 0) && below (drop (i + 1) hs) (drop (i + 1) bs))
unfolding below
below_step hs bs i h k = rw (add-one, drop-cons hs i 0, drop-cons bs i 0)

-- past the last byte the test holds
pub below_end : (hs bs : List ℕ) (i : ℕ) → length hs ≤ i → length bs ≤ i → below (drop i hs) (drop i bs) ≡ true
unfolding below
below_end hs bs i h k = rw (drop_of_length-le hs {i = i} h, drop_of_length-le bs {i = i} k)

-- what has passed, and the test of one byte, taken together
pub and_two : (g a r : Bool) → (g && (a && r)) ≡ ((g && a) && r)
and_two true a r = refl
and_two false a r = refl

-- From the test: as many bytes as bounds, and each byte's bound.

pub below_long : (hs bs : List ℕ) → below hs bs ≡ true → length bs ≡ length hs
unfolding below
below_long [] [] e = refl
below_long [] (b ∷ bs) e = absurd (false≢true e)
below_long (g ∷ hs) [] e = absurd (false≢true e)
below_long (g ∷ hs) (b ∷ bs) e = ap suc (below_long hs bs (and_right (leb b g) (below hs bs) e))

pub below_all : (hs bs : List ℕ) → below hs bs ≡ true → (i : ℕ) → get_or bs i 0 ≤ get_or hs i 0
unfolding below
below_all [] [] e i = zero-le
below_all [] (b ∷ bs) e i = absurd (false≢true e)
below_all (g ∷ hs) [] e i = absurd (false≢true e)
below_all (g ∷ hs) (b ∷ bs) e zero = leb-true b g (and_left (leb b g) (below hs bs) e)
below_all (g ∷ hs) (b ∷ bs) e (suc i) = below_all hs bs (and_right (leb b g) (below hs bs) e) i

-- And back: from each byte's bound, and part by part.

pub at_below : (hs bs : List ℕ) → length bs ≡ length hs → ((i : ℕ) → i < length bs → get_or bs i 0 ≤ get_or hs i 0) → below hs bs ≡ true
unfolding below
at_below [] [] l f = refl
at_below [] (b ∷ bs) l f = absurd (omega arith)
at_below (g ∷ hs) [] l f = absurd (omega arith)
at_below (g ∷ hs) (b ∷ bs) l f =
    rw (le-leb b g (f 0 (omega arith)), at_below hs bs (omega arith) (λ (i : ℕ). λ (h : i < length bs). f (suc i) (suc-le-suc h)))

pub below_append : (hs gs bs cs : List ℕ) → below hs bs ≡ true → below gs cs ≡ true → below (hs ++ gs) (bs ++ cs) ≡ true
unfolding below
below_append [] gs [] cs e f = f
below_append [] gs (b ∷ bs) cs e f = absurd (false≢true e)
below_append (g ∷ hs) gs [] cs e f = absurd (false≢true e)
below_append (g ∷ hs) gs (b ∷ bs) cs e f =
    rw (and_left (leb b g) (below hs bs) e, below_append hs gs bs cs (and_right (leb b g) (below hs bs) e) f)

pub below_front : (hs gs bs : List ℕ) → below (hs ++ gs) bs ≡ true → below hs (take (length hs) bs) ≡ true
unfolding below
below_front [] gs bs e = refl
below_front (g ∷ hs) gs [] e = absurd (false≢true e)
below_front (g ∷ hs) gs (b ∷ bs) e =
    rw (and_left (leb b g) (below (hs ++ gs) bs) e, below_front hs gs bs (and_right (leb b g) (below (hs ++ gs) bs) e))

pub below_rest : (hs gs bs : List ℕ) → below (hs ++ gs) bs ≡ true → below gs (drop (length hs) bs) ≡ true
unfolding below
below_rest [] gs bs e = e
below_rest (g ∷ hs) gs [] e = absurd (false≢true e)
below_rest (g ∷ hs) gs (b ∷ bs) e = below_rest hs gs bs (and_right (leb b g) (below (hs ++ gs) bs) e)

-- A flag, a byte of a word.

pub flag_leb : (b : Bool) → leb (flag b) 1 ≡ true
flag_leb true = refl
flag_leb false = refl

pub byte_leb : (x : ℕ) → leb (x % 256) 255 ≡ true
byte_leb x = le-leb (x % 256) 255 (omega arith)

-- bytes that are bytes
pub bytes_below : (n at : ℕ) (l : List ℕ) → at + n ≤ length l → ((i : ℕ) → get_or l i 0 ≤ 255) → below (replicate n 255) (bytes_in n at l) ≡ true
bytes_below n at l h f =
    let e : bytes_in n at l ≡ take n (drop at l) = bytes_room n at l h in
    let k : length (take n (drop at l)) ≡ n = length-take-le n (drop at l) (omega (arith, length-drop at l)) in
    rw e
    (at_below (replicate n 255) (take n (drop at l)) (k ∙ sym (length-replicate {A = ℕ} n 255)) (λ (i : ℕ). λ (m : i < length (take n (drop at l))). each i (omega arith)))
  where
    each : (i : ℕ) → i < n → get_or (take n (drop at l)) i 0 ≤ get_or (replicate n 255) i 0
    each i m = rw (get_or-take n (drop at l) i 0 m, get_or-drop at l i 0, get_or-replicate {A = ℕ} n i 255 0 m) (f (at + i))
