-- A list that is filled element by element from another. Assumes nothing.
use mathlib.Core.Path.{◌≡◌, sym, ◌∙◌}
use mathlib.Core.List.{List}
use Prim.Native.Nat.{ℕ, ◌+◌, ◌<◌, ◌≤◌}
use native.Mathlib.Numerals.{add-one}
use lib.ListN.{length, get_or, take, set}
use lib.Seq.{take-suc, take-suc-set, take_all}

-- one element more
pub one_more : {A : Type 0} (l x : List A) (i : ℕ) (a d : A) → take i l ≡ take i x → i < length l → i < length x → a ≡ get_or x i d
    → take (i + 1) (set l i a) ≡ take (i + 1) x
one_more l x i a d e h k s = rw (add-one, take-suc-set, take-suc x i d) (cc)

-- one number more
pub grow : (l x : List ℕ) (i a : ℕ) → take i l ≡ take i x → i < length l → i < length x → a ≡ get_or x i 0 → take (i + 1) (set l i a) ≡ take (i + 1) x
grow l x i a = one_more l x i a 0

-- all of them
pub whole : {A : Type 0} (l x : List A) (n : ℕ) → take n l ≡ take n x → length l ≤ n → length x ≤ n → l ≡ x
whole l x n e h k = sym (take_all n l h) ∙ e ∙ take_all n x k
