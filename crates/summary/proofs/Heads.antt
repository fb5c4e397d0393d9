-- Ten heads, one after the other, and a layer's five, in a list of numbers. Assumes nothing.
use mathlib.Core.Path.{◌≡◌, refl, sym, ap, ◌∙◌}
use mathlib.Core.Bool.{Bool, true, ◌&&◌}
use mathlib.Core.List.{List, [], ◌∷◌}
use Prim.Native.Nat.{ℕ, zero, suc, ◌+◌, ◌≤◌, ◌<◌}
use native.Mathlib.Numerals.{add-one}
use native.Mathlib.Omega.{arith}
use lib.Dec.{leb}
use lib.ListN.{length, get_or, take, drop, length-drop}
use lib.Seq.{get_or-take, get_or-drop, length-take-le}
use Rattle.std.proofs.lemmas.List.{ext_get_or}
use Rattle.summary.specs.declared.Five.{Five}
use Rattle.summary.specs.Summary.{heads_good, heads_in, five_in}

-- the first n of them
unfoldable pub good_to : List ℕ → ℕ → ℕ → Bool
good_to h most zero = true
good_to h most (suc n) = good_to h most n && leb (get_or h n 0) most

pub good_none : (h : List ℕ) (most : ℕ) → true ≡ good_to h most 0
unfolding good_to
good_none h most = refl

pub good_more : (h : List ℕ) (most n : ℕ) → good_to h most (n + 1) ≡ (good_to h most n && leb (get_or h n 0) most)
unfolding good_to
good_more h most n = rw add-one refl

pub good_all : (h : List ℕ) (most : ℕ) → good_to h most 10 ≡ heads_good h most
unfolding good_to heads_good
good_all h most = refl

-- ten numbers written out
pub ten_at : (f : ℕ → ℕ) (i : ℕ) → i < 10 → get_or (f 0 ∷ f 1 ∷ f 2 ∷ f 3 ∷ f 4 ∷ f 5 ∷ f 6 ∷ f 7 ∷ f 8 ∷ f 9 ∷ []) i 0 ≡ f i
ten_at f zero k = refl
ten_at f (suc zero) k = refl
ten_at f (suc (suc zero)) k = refl
ten_at f (suc (suc (suc zero))) k = refl
ten_at f (suc (suc (suc (suc zero)))) k = refl
ten_at f (suc (suc (suc (suc (suc zero))))) k = refl
ten_at f (suc (suc (suc (suc (suc (suc zero)))))) k = refl
ten_at f (suc (suc (suc (suc (suc (suc (suc zero))))))) k = refl
ten_at f (suc (suc (suc (suc (suc (suc (suc (suc zero)))))))) k = refl
ten_at f (suc (suc (suc (suc (suc (suc (suc (suc (suc zero))))))))) k = refl
ten_at f (suc (suc (suc (suc (suc (suc (suc (suc (suc (suc n)))))))))) k = absurd (omega arith)

first_ten : (l : List ℕ) → 10 ≤ length l → take 10 l ≡ heads_in l 0
first_ten l h =
    let t : length (take 10 l) ≡ 10 = length-take-le 10 l h in
    ext_get_or 0 (take 10 l) (heads_in l 0) t (λ k m. get_or-take 10 l k 0 (omega arith) ∙ sym (ten_at (λ (i : ℕ). get_or l i 0) k (omega arith)))

-- a number after a drop
later : (v : List ℕ) (at : ℕ) → (i : ℕ) → get_or (drop at v) i 0 ≡ get_or v (at + i) 0
later v at i = get_or-drop at v i 0

front : (v : List ℕ) (at : ℕ) → get_or (drop at v) 0 0 ≡ get_or v at 0
front v at = later v at 0 ∙ ap (λ (n : ℕ). get_or v n 0) (omega arith)

-- the ten, and the five, that stand from a place on
pub ten_part : (v h : List ℕ) (at : ℕ) → at + 10 ≤ length v → h ≡ take 10 (drop at v) → h ≡ heads_in v at
ten_part v h at n e =
    let d = later v at in
    e ∙ first_ten (drop at v) (omega (arith, length-drop at v)) ∙ rw (front v at, d 1, d 2, d 3, d 4, d 5, d 6, d 7, d 8, d 9) refl

pub five_part : (v t : List ℕ) (at : ℕ) (f : Five) → t ≡ take 5 (drop at v) → f ≡ five_in t 0 → f ≡ five_in v at
five_part v t at f e h =
    let l : List ℕ = drop at v in
    let p : (i : ℕ) → i < 5 → get_or (take 5 l) i 0 ≡ get_or l i 0 = λ i k. get_or-take 5 l i 0 k in
    let d = later v at in
    h ∙ rw (e, p 0 (omega arith), p 1 (omega arith), p 2 (omega arith), p 3 (omega arith), p 4 (omega arith), front v at, d 1, d 2, d 3, d 4) refl
