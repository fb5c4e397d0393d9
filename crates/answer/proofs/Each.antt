-- A list that a loop makes anew, each element by a rule that is given its number: the element at an index, and one more turn. Assumes nothing.
use mathlib.Core.Path.{◌≡◌, refl, sym, ap, ◌∙◌}
use mathlib.Core.List.{List, [], ◌∷◌}
use Prim.Native.Nat.{ℕ, zero, suc, ◌+◌, ◌<◌, ◌≤◌}
use native.Mathlib.Omega.{arith}
use lib.ListN.{length, get_or, take, set}
use Rattle.answer.specs.Each.{each_from}
use Rattle.answer.proofs.Copies.{one_more, whole}

module _ {A B : Type 0} (f : ℕ → A → B) where
  -- as many
  pub each_length : (n : ℕ) (xs : List A) → length (each_from f n xs) ≡ length xs
  each_length n [] = refl
  each_length n (x ∷ xs) = ap suc (each_length (suc n) xs)

  -- the element at an index is that of the rule, of its number and of the element there before
  pub each_at : (n : ℕ) (xs : List A) (i : ℕ) (a : A) (b : B) → i < length xs → get_or (each_from f n xs) i b ≡ f (n + i) (get_or xs i a)
  each_at n [] i a b h = absurd (omega arith)
  each_at n (x ∷ xs) zero a b h = ap (λ (k : ℕ). f k x) (omega arith)
  each_at n (x ∷ xs) (suc i) a b h = each_at (suc n) xs i a b (omega arith) ∙ ap (λ (k : ℕ). f k (get_or xs i a)) (omega arith)

-- a turn of the loop `l[i] = f (k + i) (xs[i])`: what is made so far grows by one
pub turn : {A B : Type 0} (f : ℕ → A → B) (k : ℕ) (xs : List A) (l : List B) (i : ℕ) (a : A) (b : B)
    → take i l ≡ take i (each_from f k xs) → i < length l → i < length xs → b ≡ f (k + i) (get_or xs i a)
    → take (i + 1) (set l i b) ≡ take (i + 1) (each_from f k xs)
turn f k xs l i a b e h g s =
    let m : i < length (each_from f k xs) = rw (each_length f k xs) g in
    one_more l (each_from f k xs) i b b e h m (s ∙ sym (each_at f k xs i a b g))

-- the loop's end
pub turned : {A B : Type 0} (f : ℕ → A → B) (k : ℕ) (xs : List A) (l : List B) (n : ℕ)
    → take n l ≡ take n (each_from f k xs) → length l ≤ n → length xs ≤ n → l ≡ each_from f k xs
turned f k xs l n e h g =
    let m : length (each_from f k xs) ≤ n = rw (each_length f k xs) g in
    whole l (each_from f k xs) n e h m

-- within a list, what `get_or` is handed for past its end does not matter
pub any_default : {A : Type 0} (l : List A) (i : ℕ) (d e : A) → i < length l → get_or l i d ≡ get_or l i e
any_default [] i d e h = absurd (omega arith)
any_default (x ∷ l) zero d e h = refl
any_default (x ∷ l) (suc i) d e h = any_default l i d e (omega arith)
