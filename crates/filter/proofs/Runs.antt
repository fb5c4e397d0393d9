-- Laws of runs in lists of Bools: how many at the front are alike, and that no n in a row are. Assumes nothing.
use mathlib.Core.Path.{◌≡◌, refl, ap, sym, ◌∙◌, subst⁻¹}
use mathlib.Core.Bool.{Bool, true, false, cond, ◌&&◌, beq}
use mathlib.Core.List.{List, [], ◌∷◌, ◌++◌, tail-eq_of_cons-eq, nil≢cons}
use Prim.Native.Nat.{ℕ, zero, suc, ◌≤◌, ◌<◌, zero-le, suc-le-suc}
use native.Mathlib.Nat.{le_of_suc-le-suc, not-suc-le-zero}
use native.Mathlib.Omega.{arith}
use borrow.Author.Tests.{leb-true, leb-false}
use lib.Dec.{leb, leb-zero, leb-suc-zero, leb-suc-suc}
use lib.ListN.{drop, replicate}
use Rattle.filter.specs.Since.{NoRun, row}

-- how many at the front are b
abbrev pub lead : Bool → List Bool → ℕ
lead b [] = 0
lead b (x ∷ l) = cond (beq x b) (suc (lead b l)) 0

pub beq_self : (b : Bool) → beq b b ≡ true
beq_self true = refl
beq_self false = refl

pub lead_run : (n : ℕ) (b : Bool) (l : List Bool) → n ≤ lead b l → l ≡ replicate n b ++ drop n l
lead_run zero b l h = refl
lead_run (suc n) b [] h = absurd (not-suc-le-zero h)
lead_run (suc n) true (true ∷ l) h = ap (λ (k : List Bool). true ∷ k) (lead_run n true l (le_of_suc-le-suc h))
lead_run (suc n) true (false ∷ l) h = absurd (not-suc-le-zero h)
lead_run (suc n) false (true ∷ l) h = absurd (not-suc-le-zero h)
lead_run (suc n) false (false ∷ l) h = ap (λ (k : List Bool). false ∷ k) (lead_run n false l (le_of_suc-le-suc h))

-- a list that starts with n of them
pub run_lead : (n : ℕ) (b : Bool) (l e : List Bool) → l ≡ replicate n b ++ e → n ≤ lead b l
run_lead n b l e p = subst⁻¹ (λ (m : List Bool). n ≤ lead b m) p (go n)
  where
    go : (n : ℕ) → n ≤ lead b (replicate n b ++ e)
    go zero = zero-le
    go (suc n) = rw (beq_self b) (suc-le-suc (go n))

-- the latest n are all b where the front has n of them
pub row_lead : (n : ℕ) (b : Bool) (l : List Bool) → row n b l ≡ leb n (lead b l)
unfolding row
row_lead zero b l = sym (leb-zero (lead b l))
row_lead (suc n) b [] = sym (leb-suc-zero n)
row_lead (suc n) b (x ∷ l) = by (beq x b) (row_lead n b l)
  where
    by : (t : Bool) → row n b l ≡ leb n (lead b l) → (t && row n b l) ≡ leb (suc n) (cond t (suc (lead b l)) 0)
    by true e = e ∙ sym (leb-suc-suc n (lead b l))
    by false e = sym (leb-suc-zero n)

-- more at the end takes none from the front
pub lead_mono : (b : Bool) (c r : List Bool) → lead b c ≤ lead b (c ++ r)
lead_mono b [] r = zero-le
lead_mono b (x ∷ c) r = by (beq x b) (lead_mono b c r)
  where
    by : (t : Bool) → lead b c ≤ lead b (c ++ r) → cond t (suc (lead b c)) 0 ≤ cond t (suc (lead b (c ++ r))) 0
    by true h = suc-le-suc h
    by false h = zero-le

-- zeros before a 1 are the zeros of the front
pub lead_stop : (c z : List Bool) → lead false (c ++ (true ∷ z)) ≡ lead false c
lead_stop [] z = refl
lead_stop (true ∷ c) z = refl
lead_stop (false ∷ c) z = ap suc (lead_stop c z)

-- no n in a row: of nothing, of one more, of the tail, of the front
pub no_nil : (n : ℕ) (b : Bool) → NoRun (suc n) b []
no_nil n b [] e p = nil≢cons p
no_nil n b (y ∷ d) e p = nil≢cons p

pub no_more : (n : ℕ) (b x : Bool) (l : List Bool) → lead b (x ∷ l) < n → NoRun n b l → NoRun n b (x ∷ l)
no_more n b x l h q [] e p = omega (arith, run_lead n b (x ∷ l) e p)
no_more n b x l h q (y ∷ d) e p = q d e (tail-eq_of_cons-eq p)

pub no_tail : (n : ℕ) (b x : Bool) (l : List Bool) → NoRun n b (x ∷ l) → NoRun n b l
no_tail n b x l q d e p = q (x ∷ d) e (ap (λ (m : List Bool). x ∷ m) p)

pub no_lead : (n : ℕ) (b : Bool) (l : List Bool) → NoRun n b l → lead b l < n
no_lead n b l q = by_t (leb n (lead b l)) refl
  where
    by_t : (t : Bool) → leb n (lead b l) ≡ t → lead b l < n
    by_t true e = absurd (q [] (drop n l) (lead_run n b l (leb-true _ _ e)))
    by_t false e = leb-false _ _ e
