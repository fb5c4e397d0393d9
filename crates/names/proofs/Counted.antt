-- Every pair of bytes is found alike or unlike, and what is found of each goes into the answer. Assumes nothing.
use mathlib.Core.Path.{◌≡◌, refl, ap, sym, ◌∙◌}
use mathlib.Core.Bool.{Bool, true, false, not}
use mathlib.Core.List.{List}
use Prim.Native.Nat.{ℕ, zero, suc, ◌+◌, ◌<◌}
use native.Mathlib.Omega.{arith}
use native.Mathlib.Nat.{zero-add}
use borrow.Author.Count.{below_more}
use lib.ListN.{set}
use lib.Seq.{get_or-set_other}
use Rattle.answer.specs.Bits.{flag}
use Rattle.names.specs.declared.Compared.{Compared}
use Rattle.names.specs.Names.{same_in, same_at, alike_in, unlike_in, compared_of, Compares, EachRead}

-- alike or unlike, and not both
one_of : (b : Bool) → flag b + flag (not b) ≡ 1
one_of true = refl
one_of false = refl

-- n pairs are n, however many of them are alike
all_met : (n from : ℕ) (a b : List ℕ) → alike_in n from a b + unlike_in n from a b ≡ n
unfolding alike_in unlike_in
all_met zero from a b = refl
all_met (suc n) from a b = omega (arith, all_met n from a b, one_of (same_at (from + n) a b))

-- the two names' 16 bytes are the 32
alike_parts : (a b : List ℕ) → alike_in 32 0 a b ≡ alike_in 16 0 a b + alike_in 16 16 a b
unfolding alike_in
alike_parts a b = omega arith

unlike_parts : (a b : List ℕ) → unlike_in 32 0 a b ≡ unlike_in 16 0 a b + unlike_in 16 16 a b
unlike_parts a b = omega (arith, alike_parts a b, all_met 32 0 a b, all_met 16 0 a b, all_met 16 16 a b)

-- what was found of both names is the comparison, and 64 bytes were read, whatever they are
pub of_parts : (accepted names : List ℕ) → Compares accepted names (record {
  sapi = same_in 16 0 accepted names;
  dapi = same_in 16 16 accepted names;
  alike = alike_in 16 0 accepted names + alike_in 16 16 accepted names;
  unlike = unlike_in 16 0 accepted names + unlike_in 16 16 accepted names;
})
unfolding compared_of
of_parts accepted names = record {
  answers = rw (alike_parts, unlike_parts);
  reads = omega (arith, all_met 16 0 accepted names, all_met 16 16 accepted names);
}

-- Two pairs of lists: what is found at each place decides how many are alike.
module _ (a b c d : List ℕ) (from : ℕ) where
  still : (n : ℕ) → ((j : ℕ) → j < n → same_at (from + j) c d ≡ same_at (from + j) a b) → alike_in n from c d ≡ alike_in n from a b
  unfolding alike_in
  still zero f = refl
  still (suc n) f = rw (still n (λ j h. f j (omega arith)), f n (omega arith))

  -- where another is found at one place alone, one more or one fewer
  abbrev Turned : ℕ → ℕ → Type 0
  Turned n k = ((j : ℕ) → (j ≡ k → ⊥) → same_at (from + j) c d ≡ same_at (from + j) a b)
      → alike_in n from c d + flag (same_at (from + k) a b) ≡ alike_in n from a b + flag (same_at (from + k) c d)

  turned : (n k : ℕ) → k < n → Turned n k
  unfolding alike_in
  turned zero k h = absurd (omega arith)
  turned (suc n) k h = below_more (λ (k : ℕ). Turned (suc n) k) n
      (λ k h. λ f. let e : same_at (from + n) c d ≡ same_at (from + n) a b = f n (λ q. omega arith) in rw e (omega (arith, turned n k h f)))
      (λ f. omega (arith, still n (λ j h. f j (λ q. omega arith)))) k (omega arith)

-- so that two comparisons which find another at one place alone are not the same
differ : (a b c d : List ℕ) (i : ℕ) → i < 32 → ((j : ℕ) → (j ≡ i → ⊥) → same_at j c d ≡ same_at j a b)
    → same_at i c d ≡ not (same_at i a b) → (r s : Compared) → Compares a b r → Compares c d s → r ≡ s → ⊥
unfolding compared_of
differ a b c d i h f e r s p q z =
    let same : alike_in 32 0 a b ≡ alike_in 32 0 c d = ap (λ (x : Compared). x.alike) (sym p.answers ∙ z ∙ q.answers) in
    let moved : alike_in 32 0 c d + flag (same_at i a b) ≡ alike_in 32 0 a b + flag (same_at i c d) =
    rw zero-add at (turned a b c d 0 32 i h (λ j ne. rw zero-add (f j ne))) in
    let found : alike_in 32 0 c d + flag (same_at i a b) ≡ alike_in 32 0 a b + flag (not (same_at i a b)) = rw e at moved in
    omega (arith, same, found, one_of (same_at i a b))

pub each_read : EachRead
each_read accepted names i h = record {
  trace = λ x. differ accepted names (set accepted i x) names i h (λ j ne. rw (get_or-set_other accepted i j x 0 ne));
  name = λ x. differ accepted names accepted (set names i x) i h (λ j ne. rw (get_or-set_other names i j x 0 ne));
}
