-- Laws of ranges, for any table: the test as facts and back, and that numbers in range are read back. Assumes nothing.
use mathlib.Core.Path.{◌≡◌, refl}
use mathlib.Core.Bool.{Bool, true, false, ◌&&◌}
use mathlib.Core.List.{List, [], ◌∷◌, ◌++◌}
use Prim.Native.Nat.{ℕ, ◌+◌, ◌≤◌, ◌<◌}
use native.Mathlib.Numerals.{add-one}
use native.Mathlib.Omega.{arith}
use lib.Dec.{leb, ltb}
use lib.ListN.{length, get_or, drop, drop_of_length-le}
use lib.Seq.{drop-cons}
use borrow.Author.Tests.{leb-true, ltb-true, le-leb}
use Rattle.answer.proofs.Cond.{and_left, and_right}
use Rattle.words.specs.Words.{flat, words_of}
use Rattle.words.specs.Ranges.{inside}
use Rattle.words.proofs.Words.{word_back}

-- one more number of the test
pub inside_step : (los his ws : List ℕ) (i : ℕ) → i < length los → i < length his → i < length ws
    → inside (drop i los) (drop i his) (drop i ws)
    ≡ (leb (get_or los i 0) (get_or ws i 0) && (leb (get_or ws i 0) (get_or his i 0) && inside (drop (i + 1) los) (drop (i + 1) his) (drop (i + 1) ws)))
unfolding inside
inside_step los his ws i h k m = rw (add-one, drop-cons los i 0, drop-cons his i 0, drop-cons ws i 0)

-- past the last number the test holds
pub inside_end : (los his ws : List ℕ) (i : ℕ) → length los ≤ i → length his ≤ i → length ws ≤ i → inside (drop i los) (drop i his) (drop i ws) ≡ true
unfolding inside
inside_end los his ws i h k m = rw (drop_of_length-le los {i = i} h, drop_of_length-le his {i = i} k, drop_of_length-le ws {i = i} m)

-- what has passed, and the tests of one number, taken together
pub and_three : (g a b r : Bool) → (g && (a && (b && r))) ≡ (((g && a) && b) && r)
and_three true true b r = refl
and_three true false b r = refl
and_three false a b r = refl

pub and_true : (g : Bool) → (g && true) ≡ g
and_true true = refl
and_true false = refl

-- each number's two bounds, as facts
abbrev pub Inside : List ℕ → List ℕ → List ℕ → Type 0
Inside [] [] [] = Unit {0}
Inside [] [] (w ∷ ws) = ⊥
Inside [] (hi ∷ his) ws = ⊥
Inside (lo ∷ los) [] ws = ⊥
Inside (lo ∷ los) (hi ∷ his) [] = ⊥
Inside (lo ∷ los) (hi ∷ his) (w ∷ ws) = ((lo ≤ w) × (w ≤ hi)) × Inside los his ws

none : {A : Type 0} → ◌≡◌ {A = Bool} false true → A
none e = let z : ◌≡◌ {A = ℕ} 0 1 = cc in let f : ⊥ = omega arith in absurd f

pub facts : (los his ws : List ℕ) → inside los his ws ≡ true → Inside los his ws
unfolding inside
facts [] [] [] e = tt
facts [] [] (w ∷ ws) e = none e
facts [] (hi ∷ his) ws e = none e
facts (lo ∷ los) [] ws e = none e
facts (lo ∷ los) (hi ∷ his) [] e = none e
facts (lo ∷ los) (hi ∷ his) (w ∷ ws) e =
    let r = inside los his ws in
    let e' = and_right (leb lo w) (leb w hi && r) e in
    ((leb-true lo w (and_left (leb lo w) (leb w hi && r) e), leb-true w hi (and_left (leb w hi) r e')), facts los his ws (and_right (leb w hi) r e'))

pub holds : (los his ws : List ℕ) → Inside los his ws → inside los his ws ≡ true
unfolding inside
holds [] [] [] f = refl
holds [] [] (w ∷ ws) f = absurd f
holds [] (hi ∷ his) ws f = absurd f
holds (lo ∷ los) [] ws f = absurd f
holds (lo ∷ los) (hi ∷ his) [] f = absurd f
holds (lo ∷ los) (hi ∷ his) (w ∷ ws) f = simp (le-leb lo w f.0.0, le-leb w hi f.0.1, holds los his ws f.1)

-- each is below 2 ^ 32
abbrev pub small : List ℕ → Bool
small [] = true
small (h ∷ hs) = ltb h 4294967296 && small hs

-- numbers in their ranges are read back from their bytes, whatever follows
pub words_back : (los his ws r : List ℕ) → small his ≡ true → inside los his ws ≡ true → words_of (length ws) (flat ws ++ r) ≡ ws
unfolding inside words_of flat
words_back los his [] r s e = refl
words_back [] [] (w ∷ ws) r s e = none e
words_back [] (hi ∷ his) (w ∷ ws) r s e = none e
words_back (lo ∷ los) [] (w ∷ ws) r s e = none e
words_back (lo ∷ los) (hi ∷ his) (w ∷ ws) r s e =
    let p = facts (lo ∷ los) (hi ∷ his) (w ∷ ws) e in
    let h : w < 4294967296 = omega (arith, ltb-true hi 4294967296 (and_left (ltb hi 4294967296) (small his) s)) in
    let e' = and_right (leb w hi) (inside los his ws) (and_right (leb lo w) (leb w hi && inside los his ws) e) in
    simp (word_back w h, words_back los his ws r (and_right (ltb hi 4294967296) (small his) s) e')
