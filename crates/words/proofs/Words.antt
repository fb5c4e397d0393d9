-- Laws of words: their bytes, and that they are read back. Assumes nothing.
use mathlib.Core.Path.{◌≡◌, refl, sym, ap, ◌∙◌}
use mathlib.Core.List.{List, [], ◌∷◌, ◌++◌}
use Prim.Native.Nat.{ℕ, zero, suc, ◌+◌, ◌*◌, ◌/◌, ◌%◌, ◌≤◌, ◌<◌}
use native.Mathlib.Nat.{not-suc-le-zero, le_of_suc-le-suc, div-div-eq-div-mul, mod-eq_of_lt}
use native.Mathlib.Numerals.{add-one}
use native.Mathlib.Omega.{arith}
use lib.ListN.{length, get_or, take, drop, replicate, set, length-append}
use lib.Seq.{take-suc, get_or-drop, length-take-le, take-append-add, drop-append-add}
use borrow.Author.Tests.{le-leb, lt-leb}
use Rattle.words.specs.Words.{le4, flat, word_at, words_of, words_in, counted_in, added_in, le8, flat8, number_at, numbers_of, numbers_in}
use Rattle.std.specs.Int.{to_le_bytes}
use mir.Syntax.{w32, w64}
use Rattle.answer.specs.Over.{over}
use Rattle.codec.proofs.Overs.{over_all, laid_done, laid_kept}
use Rattle.filter.specs.Filter.{up_of, add_of}
use Rattle.answer.proofs.Overs.{over_over}

pub flat_append : (x y : List ℕ) → flat (x ++ y) ≡ flat x ++ flat y
unfolding flat
flat_append [] y = refl
flat_append (w ∷ x) y = ap (λ (t : List ℕ). le4 w ++ t) (flat_append x y)

pub flat_more : (w : List ℕ) (i : ℕ) → i < length w → flat (take (i + 1) w) ≡ flat (take i w) ++ le4 (get_or w i 0)
unfolding flat
flat_more w i h = rw (add-one, take-suc w i 0, flat_append)

pub length_flat : (w : List ℕ) → length (flat w) ≡ length w * 4
unfolding flat
length_flat [] = refl
length_flat (x ∷ w) = omega (arith, length_flat w)

pub length_words : (n : ℕ) (l : List ℕ) → length (words_of n l) ≡ n
unfolding words_of
length_words zero l = refl
length_words (suc n) l = ap suc (length_words n (drop 4 l))

-- a word after a drop
byte_at : (l : List ℕ) (n k j : ℕ) → n + k ≡ j → get_or (drop n l) k 0 ≡ get_or l j 0
byte_at l n k j e = get_or-drop n l k 0 ∙ ap (λ (m : ℕ). get_or l m 0) e

pub word_at_drop : (l : List ℕ) (n k : ℕ) → word_at (drop n l) k ≡ word_at l (n + k)
word_at_drop l n k =
    omega (
      arith,
      byte_at l n k (n + k) refl,
      byte_at l n (k + 1) (n + k + 1) (omega arith),
      byte_at l n (k + 2) (n + k + 2) (omega arith),
      byte_at l n (k + 3) (n + k + 3) (omega arith),
    )

pub word_of : (n : ℕ) (l : List ℕ) (i : ℕ) → i < n → get_or (words_of n l) i 0 ≡ word_at l (i * 4)
unfolding words_of
word_of zero l i h = absurd (not-suc-le-zero h)
word_of (suc n) l zero h = refl
word_of (suc n) l (suc i) h = word_of n (drop 4 l) i (le_of_suc-le-suc h) ∙ word_at_drop l 4 (i * 4) ∙ ap (word_at l) (omega arith)

-- one word more of words that are written over
pub over_word : (d b' b w : List ℕ) (at i : ℕ) → b' ≡ over b (at + i * 4) (le4 (get_or w i 0)) → b ≡ over d at (flat (take i w))
    → i < length w → at ≤ length d → b' ≡ over d at (flat (take (i + 1) w))
over_word d b' b w at i e h k r =
    let n : at + i * 4 ≡ at + length (flat (take i w)) = omega (arith, length_flat (take i w), length-take-le i w (omega arith)) in
    e ∙ rw h (over_over d at (at + i * 4) (flat (take i w)) (le4 (get_or w i 0)) r n ∙ ap (over d at) (sym (flat_more w i k)))

-- words, and others behind them, over all of the bytes
pub over_two : (d o p v w : List ℕ) (n : ℕ) → n ≡ length v * 4 → length v * 4 + length w * 4 ≡ length d
    → o ≡ over d 0 (flat v) → p ≡ over o n (flat w) → p ≡ flat (v ++ w)
over_two d o p v w n h l e f =
    let k : n ≡ 0 + length (flat v) = omega (arith, length_flat v) in
    let m : length (flat v ++ flat w) ≡ length d = length-append (flat v) (flat w) ∙ omega (arith, length_flat v, length_flat w) in
    f
    ∙ ap (λ (x : List ℕ). over x n (flat w)) e
    ∙ over_over d 0 n (flat v) (flat w) (omega arith) k
    ∙ over_all d (flat v ++ flat w) m
    ∙ sym (flat_append v w)

-- within the bytes
pub words_room : (n at : ℕ) (l : List ℕ) → at + n * 4 ≤ length l → words_in n at l ≡ words_of n (drop at l)
unfolding words_in
words_room n at l h = rw (le-leb (at + n * 4) (length l) h)

-- a number below 2 ^ 32 is read back from its four bytes
pub word_back : (x : ℕ) → x < 4294967296 → x % 256 + 256 * (x / 256 % 256) + 65536 * (x / 65536 % 256) + 16777216 * (x / 16777216 % 256) ≡ x
word_back x h =
    let c : x / 16777216 < 256 = omega arith in
    let m : x / 16777216 % 256 ≡ x / 16777216 = mod-eq_of_lt c in
    omega (arith, m, div-div-eq-div-mul x 256 256, div-div-eq-div-mul x 65536 256)

-- and beyond them
pub words_beyond : (n at : ℕ) (l : List ℕ) → length l < at + n * 4 → replicate n 0 ≡ words_in n at l
unfolding words_in
words_beyond n at l h = rw (lt-leb (at + n * 4) (length l) h)

-- the four bytes as the library has them
pub four_bytes : (x : ℕ) (v : List ℕ) → v ≡ to_le_bytes w32 x → v ≡ le4 x
four_bytes x v e = e

-- and the eight
low_bytes : (x : ℕ) → le4 (x % 4294967296) ≡ le4 x
low_bytes x =
    let a : x % 4294967296 % 256 ≡ x % 256 = omega arith in
    let b : x % 4294967296 / 256 % 256 ≡ x / 256 % 256 = omega arith in
    let c : x % 4294967296 / 65536 % 256 ≡ x / 65536 % 256 = omega arith in
    let d : x % 4294967296 / 16777216 % 256 ≡ x / 16777216 % 256 = omega arith in
    rw (a, b, c, d) refl

high_bytes : (x : ℕ) → le4 (x / 4294967296) ≡ x / 4294967296 % 256 ∷ x / 1099511627776 % 256 ∷ x / 281474976710656 % 256 ∷ x / 72057594037927936 % 256 ∷ []
high_bytes x = rw (div-div-eq-div-mul x 4294967296 256, div-div-eq-div-mul x 4294967296 65536, div-div-eq-div-mul x 4294967296 16777216) refl

pub eight_bytes : (x : ℕ) (v : List ℕ) → v ≡ to_le_bytes w64 x → v ≡ le8 x
eight_bytes x v e =
    e ∙ ap (λ (t : List ℕ). le4 x ++ t) (sym (high_bytes x)) ∙ ap (λ (t : List ℕ). t ++ le4 (x / 4294967296)) (sym (low_bytes x))

-- one more in a word, where it lies within the bytes and where it does not
pub counted : (d o : List ℕ) (i n x m : ℕ) → i * 4 + 4 ≤ length d → x ≡ word_at d (i * 4) → m ≡ up_of x n → o ≡ over d (i * 4) (le4 m) → o ≡ counted_in d i n
unfolding counted_in
counted d o i n x m h e u w = rw (← e, ← u) (laid_done d (i * 4) 4 (le4 m) o refl h w)

pub counted_not : (d : List ℕ) (i n : ℕ) → length d < i * 4 + 4 → d ≡ counted_in d i n
unfolding counted_in
counted_not d i n h = laid_kept d (i * 4) 4 (le4 (up_of (word_at d (i * 4)) n)) refl h

-- the same of so many more
pub added : (d o : List ℕ) (i more n x m : ℕ) → i * 4 + 4 ≤ length d → x ≡ word_at d (i * 4) → m ≡ add_of x more n → o ≡ over d (i * 4) (le4 m) → o ≡ added_in d i more n
unfolding added_in
added d o i more n x m h e u w = rw (← e, ← u) (laid_done d (i * 4) 4 (le4 m) o refl h w)

pub added_not : (d : List ℕ) (i more n : ℕ) → length d < i * 4 + 4 → d ≡ added_in d i more n
unfolding added_in
added_not d i more n h = laid_kept d (i * 4) 4 (le4 (add_of (word_at d (i * 4)) more n)) refl h

-- a word of many, read and written in its place
pub word_in_flat : (ws : List ℕ) (i : ℕ) → get_or ws i 0 < 4294967296 → i < length ws → word_at (flat ws) (i * 4) ≡ get_or ws i 0
unfolding flat
word_in_flat [] i b h = absurd (not-suc-le-zero h)
word_in_flat (w ∷ ws) zero b h = word_back w b
word_in_flat (w ∷ ws) (suc i) b h =
    let e : suc i * 4 ≡ 4 + i * 4 = omega arith in
    ap (word_at (flat (w ∷ ws))) e ∙ sym (word_at_drop (flat (w ∷ ws)) 4 (i * 4)) ∙ word_in_flat ws i b (le_of_suc-le-suc h)

pub over_in_flat : (ws : List ℕ) (i x : ℕ) → i < length ws → over (flat ws) (i * 4) (le4 x) ≡ flat (set ws i x)
unfolding flat over
over_in_flat [] i x h = absurd (not-suc-le-zero h)
over_in_flat (w ∷ ws) zero x h = refl
over_in_flat (w ∷ ws) (suc i) x h =
    let e : suc i * 4 ≡ 4 + i * 4 = omega arith in
    let k : 4 + i * 4 + 4 ≡ 4 + (i * 4 + 4) = omega arith in
    let t = take-append-add (le4 w) (flat ws) (i * 4) in
    let d = drop-append-add (le4 w) (flat ws) (i * 4 + 4) in
    rw (e, k, t, d) (ap (λ (r : List ℕ). le4 w ++ r) (over_in_flat ws i x (le_of_suc-le-suc h)))

-- the same of numbers of 64 bits
flat8_append : (x y : List ℕ) → flat8 (x ++ y) ≡ flat8 x ++ flat8 y
unfolding flat8
flat8_append [] y = refl
flat8_append (w ∷ x) y = ap (λ (t : List ℕ). le8 w ++ t) (flat8_append x y)

flat8_more : (w : List ℕ) (i : ℕ) → i < length w → flat8 (take (i + 1) w) ≡ flat8 (take i w) ++ le8 (get_or w i 0)
unfolding flat8
flat8_more w i h = rw (add-one, take-suc w i 0, flat8_append)

pub length_flat8 : (w : List ℕ) → length (flat8 w) ≡ length w * 8
unfolding flat8
length_flat8 [] = refl
length_flat8 (x ∷ w) = omega (arith, length_flat8 w)

pub length_numbers : (n : ℕ) (l : List ℕ) → length (numbers_of n l) ≡ n
unfolding numbers_of
length_numbers zero l = refl
length_numbers (suc n) l = ap suc (length_numbers n (drop 8 l))

number_at_drop : (l : List ℕ) (n k : ℕ) → number_at (drop n l) k ≡ number_at l (n + k)
number_at_drop l n k =
    let h : word_at (drop n l) (k + 4) ≡ word_at l (n + k + 4) = word_at_drop l n (k + 4) ∙ ap (word_at l) (omega arith) in
    omega (arith, word_at_drop l n k, h)

pub number_of : (n : ℕ) (l : List ℕ) (i : ℕ) → i < n → get_or (numbers_of n l) i 0 ≡ number_at l (i * 8)
unfolding numbers_of
number_of zero l i h = absurd (not-suc-le-zero h)
number_of (suc n) l zero h = refl
number_of (suc n) l (suc i) h = number_of n (drop 8 l) i (le_of_suc-le-suc h) ∙ number_at_drop l 8 (i * 8) ∙ ap (number_at l) (omega arith)

pub numbers_room : (n : ℕ) (l : List ℕ) → n * 8 ≤ length l → numbers_in n l ≡ numbers_of n l
unfolding numbers_in
numbers_room n l h = rw (le-leb (n * 8) (length l) h)

pub numbers_beyond : (n : ℕ) (l : List ℕ) → length l < n * 8 → replicate n 0 ≡ numbers_in n l
unfolding numbers_in
numbers_beyond n l h = rw (lt-leb (n * 8) (length l) h)

-- one number more of numbers that are written over
pub over_number : (d b' b w : List ℕ) (i : ℕ) → b' ≡ over b (i * 8) (le8 (get_or w i 0)) → b ≡ over d 0 (flat8 (take i w)) → i < length w → b' ≡ over d 0 (flat8 (take (i + 1) w))
over_number d b' b w i e h k =
    let n : i * 8 ≡ 0 + length (flat8 (take i w)) = omega (arith, length_flat8 (take i w), length-take-le i w (omega arith)) in
    e ∙ rw h (over_over d 0 (i * 8) (flat8 (take i w)) (le8 (get_or w i 0)) (omega arith) n ∙ ap (over d 0) (sym (flat8_more w i k)))

-- numbers below 2 ^ 64 are read back from their bytes
abbrev pub Wide : List ℕ → Type 0
Wide [] = Unit {0}
Wide (x ∷ xs) = (x < 18446744073709551616) × Wide xs

number_back : (x : ℕ) (r : List ℕ) → x < 18446744073709551616 → number_at (le8 x ++ r) 0 ≡ x
number_back x r h =
    let low : x % 4294967296 < 4294967296 = omega arith in
    let high : x / 4294967296 < 4294967296 = omega arith in
    omega (arith, word_back (x % 4294967296) low, word_back (x / 4294967296) high)

pub numbers_back : (v r : List ℕ) → Wide v → numbers_of (length v) (flat8 v ++ r) ≡ v
unfolding numbers_of flat8
numbers_back [] r h = refl
numbers_back (x ∷ xs) r h =
    ap (λ (n : ℕ). n ∷ numbers_of (length xs) (flat8 xs ++ r)) (number_back x (flat8 xs ++ r) h.0) ∙ ap (λ (t : List ℕ). x ∷ t) (numbers_back xs r h.1)
