-- The tests of bytes are equality: byte by byte, and as lists. Assumes nothing.
use mathlib.Core.Path.{◌≡◌, refl, ap, sym, ◌∙◌, subst}
use mathlib.Core.Bool.{Bool, true, false, false≢true}
use mathlib.Core.List.{List, [], ◌∷◌}
use Prim.Native.Nat.{ℕ, zero, suc, ◌+◌, ◌≤◌, ◌<◌}
use native.Mathlib.Omega.{arith}
use borrow.Author.Count.{below_more}
use borrow.Author.Tests.{eqb-true, eq-eqb}
use lib.Dec.{eqb}
use lib.ListN.{length, get_or, take, drop, length-drop}
use lib.Seq.{length-take-le, get_or-take, get_or-drop, take_all, ext_get_or}
use Rattle.answer.proofs.Cond.{and_left, and_right}
use Rattle.names.specs.Names.{same_in, same_trace, same}

-- two tests that pass together are one
both : (s t : Bool) → (s ≡ true → t ≡ true) → (t ≡ true → s ≡ true) → s ≡ t
both true t f g = sym (f refl)
both false true f g = g refl
both false false f g = refl

-- lists
pub same_eq : (a b : List ℕ) → same a b ≡ true → a ≡ b
unfolding same
same_eq [] [] e = refl
same_eq [] (y ∷ b) e = absurd (false≢true e)
same_eq (x ∷ a) [] e = absurd (false≢true e)
same_eq (x ∷ a) (y ∷ b) e =
    let p : x ≡ y = eqb-true x y (and_left (eqb x y) _ e) in
    let q : a ≡ b = same_eq a b (and_right (eqb x y) _ e) in
    cc

same_self : (a : List ℕ) → same a a ≡ true
unfolding same
same_self [] = refl
same_self (x ∷ a) = rw (eq-eqb x x refl) (same_self a)

-- n bytes from a place on: each of them is the same
in_at : (n from : ℕ) (a b : List ℕ) → same_in n from a b ≡ true → (i : ℕ) → i < n → get_or a (from + i) 0 ≡ get_or b (from + i) 0
unfolding same_in
in_at zero from a b e i h = absurd (omega arith)
in_at (suc n) from a b e i h =
    below_more (λ (k : ℕ). get_or a (from + k) 0 ≡ get_or b (from + k) 0) n (in_at n from a b (and_left (same_in n from a b) _ e))
    (eqb-true (get_or a (from + n) 0) (get_or b (from + n) 0) (and_right (same_in n from a b) _ e)) i (omega arith)

at_in : (n from : ℕ) (a b : List ℕ) → ((i : ℕ) → i < n → get_or a (from + i) 0 ≡ get_or b (from + i) 0) → same_in n from a b ≡ true
unfolding same_in
at_in zero from a b f = refl
at_in (suc n) from a b f =
    rw (at_in n from a b (λ i h. f i (omega arith))) (eq-eqb (get_or a (from + n) 0) (get_or b (from + n) 0) (f n (omega arith)))

-- so they are the same list
module _ (n from : ℕ) (a b : List ℕ) (la : from + n ≤ length a) (lb : from + n ≤ length b) where
  part_size : (c : List ℕ) → from + n ≤ length c → length (take n (drop from c)) ≡ n
  part_size c h = length-take-le n (drop from c) (simp length-drop (omega arith))

  part_at : (c : List ℕ) (i : ℕ) → i < n → get_or (take n (drop from c)) i 0 ≡ get_or c (from + i) 0
  part_at c i h = rw (get_or-take, get_or-drop)

  pub same_in_lem : same_in n from a b ≡ same (take n (drop from a)) (take n (drop from b))
  same_in_lem =
      let A : List ℕ = take n (drop from a) in
      let B : List ℕ = take n (drop from b) in
      both (same_in n from a b) (same A B)
      (λ e. let q : A ≡ B = ext_get_or 0 A B (part_size a la ∙ sym (part_size b lb)) (λ i h. let k : i < n = omega (arith, part_size a la) in
      part_at a i k ∙ in_at n from a b e i k ∙ sym (part_at b i k)) in
      subst (λ (z : List ℕ). same A z ≡ true) q (same_self A))
      (λ e. at_in n from a b (λ i h. sym (part_at a i h) ∙ ap (λ (z : List ℕ). get_or z i 0) (same_eq A B e) ∙ part_at b i h))

pub same_trace_lem : (a b : List ℕ) → length a ≡ 64 → length b ≡ 64 → same_trace a b ≡ same a b
unfolding same_trace
same_trace_lem a b la lb =
    let h : 0 + 64 ≤ length a = omega arith in
    let k : 0 + 64 ≤ length b = omega arith in
    same_in_lem 64 0 a b h k ∙ ap (λ (z : List ℕ). same z (take 64 b)) (take_all 64 a (omega arith)) ∙ ap (same a) (take_all 64 b (omega arith))
