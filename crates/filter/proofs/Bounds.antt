-- What bounds a counter and a filter's run, whatever they were before. Assumes nothing.
use Prim.Native.Nat.{ℕ, suc, ◌+◌, ◌≤◌, ◌<◌}
use mathlib.Core.Path.{◌≡◌, refl}
use mathlib.Core.Bool.{Bool, true, false, cond, beq}
use native.Mathlib.Omega.{arith}
use lib.Dec.{leb, ltb, eqb}
use borrow.Author.Tests.{leb-true, leb-false, ltb-true, le-leb, lt-ltb, eqb-false, eq-eqb, ne_eqb}
use Rattle.answer.proofs.Cond.{by_cond}
use Rattle.filter.specs.declared.Filter.{Filter}
use Rattle.filter.specs.declared.Stat.{Stat}
use Rattle.filter.specs.Filter.{up_of, add_of, filter_of}
use Rattle.filter.specs.Stat.{in_row, stat_of}

-- a counter is at most its bound
pub up_most : (run n : ℕ) → up_of run n ≤ n
unfolding up_of
up_most run n = by_cond (λ (x : ℕ). x ≤ n) (ltb run n) (λ e. let h : run < n = ltb-true run n e in omega arith) (λ _. omega arith)

-- below its bound it is the plain count
pub up_plain : (run n : ℕ) → run < n → up_of run n ≡ run + 1
unfolding up_of
up_plain run n h = rw (lt-ltb run n h)

-- the same of so many more
pub add_most : (run more most : ℕ) → add_of run more most ≤ most
unfolding add_of
add_most run more most = by_cond (λ (x : ℕ). x ≤ most) (leb (run + more) most) (λ e. leb-true (run + more) most e) (λ _. omega arith)

pub add_plain : (run more most : ℕ) → run + more ≤ most → add_of run more most ≡ run + more
unfolding add_of
add_plain run more most h = rw (le-leb (run + more) most h)

-- one more comes to the bound exactly where the plain count does
pub up_reaches : (run n : ℕ) → eqb (up_of run n) n ≡ leb n (suc run)
unfolding up_of
up_reaches run n = by (leb n (suc run)) refl
  where
    by : (t : Bool) → leb n (suc run) ≡ t → eqb (cond (ltb run n) (run + 1) n) n ≡ t
    by true e =
        let h : n ≤ suc run = leb-true n (suc run) e in
        by_cond (λ (x : ℕ). eqb x n ≡ true) (ltb run n) (λ u. let k : run < n = ltb-true run n u in eq-eqb (run + 1) n (omega arith)) (λ _. eq-eqb n n refl)
    by false e =
        let h : suc run < n = leb-false n (suc run) e in
        rw (lt-ltb run n (omega arith)) (ne_eqb (run + 1) n (λ p. omega (arith, p)))

-- a run is below n
pub filter_most : (f : Filter) (n m : ℕ) (forget bit : Bool) → n ≤ m + 1 → (filter_of f n forget bit).run ≤ m
unfolding filter_of
filter_most f n m forget bit h =
    let P : Filter → Type 0 = λ z. z.run ≤ m in
    by_cond P forget (λ _. omega arith)
    (λ _. by_cond P (beq bit f.on) (λ _. omega arith)
    (λ _. by_cond P (eqb (up_of f.run n) n) (λ _. omega arith)
    (λ e. let a : up_of f.run n ≤ n = up_most f.run n in let d = eqb-false (up_of f.run n) n e in omega (arith, d))))

pub in_row_most : (s : Stat) (v : ℕ) → in_row s v ≤ 3
unfolding in_row
in_row_most s v = by_cond (λ (x : ℕ). x ≤ 3) (eqb v s.value) (λ _. up_most s.run 3) (λ _. omega arith)

-- a value, its run and the accepted one
pub stat_most : (s : Stat) (forget : Bool) (v m : ℕ) → v ≤ m → s.accepted ≤ m
    → ((stat_of s forget v).value ≤ m) × ((stat_of s forget v).run ≤ 3) × ((stat_of s forget v).accepted ≤ m)
unfolding stat_of
stat_most s forget v m h a =
    by_cond (λ (z : Stat). (z.value ≤ m) × (z.run ≤ 3) × (z.accepted ≤ m)) forget
    (λ _. omega arith)
    (λ _. (h, in_row_most s v, by_cond (λ (x : ℕ). x ≤ m) (eqb (in_row s v) 3) (λ _. h) (λ _. a)))
