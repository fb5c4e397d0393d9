-- From any state n equal bits in a row are taken over, and three equal values accepted. Assumes nothing.
use Prim.Native.Nat.{ℕ, zero, suc, ◌+◌, ◌<◌, ◌≤◌}
use mathlib.Core.Path.{◌≡◌, refl, sym}
use mathlib.Core.Bool.{Bool, true, false, beq}
use mathlib.Core.Logic.{◌⊎◌, inl, inr, ⊎_elim}
use native.Mathlib.Omega.{arith}
use lib.Dec.{ltb, eqb}
use borrow.Author.Tests.{eq-eqb, eqb-false}
use Rattle.answer.proofs.Cond.{by_cond}
use Rattle.answer.proofs.Every.{beq_eq}
use Rattle.filter.specs.declared.Filter.{Filter}
use Rattle.filter.specs.declared.Stat.{Stat}
use Rattle.filter.specs.Filter.{up_of, filter_of}
use Rattle.filter.specs.Stat.{in_row, stat_of}
use Rattle.filter.specs.Rows.{fed, TakesOver, Accepts}
use Rattle.filter.proofs.Bounds.{up_most, in_row_most}
use Rattle.filter.proofs.Runs.{beq_self}

-- after k of them the filter agrees, or has counted them all
abbrev Counted : Bool → ℕ → Filter → Type 0
Counted bit k f = (f.on ≡ bit) ⊎ (k ≤ f.run)

-- the same after one more, where n are not yet counted
abbrev Less : Bool → ℕ → ℕ → Filter → Type 0
Less bit n k f = (f.on ≡ bit) ⊎ ((k ≤ f.run) × (f.run < n))

up_least : (run n : ℕ) → eqb (up_of run n) n ≡ false → up_of run n ≡ run + 1
unfolding up_of
up_least run n = by_cond (λ (x : ℕ). eqb x n ≡ false → x ≡ run + 1) (ltb run n) (λ _ _. refl) (λ _ e. absurd (eqb-false n n e refl))

one_more : (n k : ℕ) (bit : Bool) (f : Filter) → Counted bit k f → Less bit n (suc k) (filter_of f n false bit)
unfolding filter_of
one_more n k bit f h =
    by_cond (Less bit n (suc k)) (beq bit f.on)
    (λ e. inl (sym (beq_eq bit f.on (rw e tt))))
    (λ d. by_cond (Less bit n (suc k)) (eqb (up_of f.run n) n)
    (λ _. inl refl)
    (λ e. ⊎_elim
    (λ (a : f.on ≡ bit). absurd (differ d a))
    (λ (c : k ≤ f.run).
    let u : up_of f.run n ≡ f.run + 1 = up_least f.run n e in
    let m : up_of f.run n ≤ n = up_most f.run n in
    let x = eqb-false (up_of f.run n) n e in
    inr (omega arith, omega (arith, x)))
    h))
  where
    differ : beq bit f.on ≡ false → f.on ≡ bit → ⊥
    differ d a = let z : true ≡ false = rw (a, beq_self) at d in let w : ◌≡◌ {A = ℕ} 0 1 = cc in omega arith

fed_counted : (n : ℕ) (bit : Bool) (k : ℕ) (f : Filter) → Less bit n (suc k) (fed n bit (suc k) f)
unfolding fed
fed_counted n bit zero f = one_more n 0 bit f (inr (omega arith))
fed_counted n bit (suc k) f =
    one_more n (suc k) bit (fed n bit (suc k) f)
    (⊎_elim (λ (e : (fed n bit (suc k) f).on ≡ bit). inl e) (λ w. inr w.0) (fed_counted n bit k f))

pub takes_over : (n : ℕ) → TakesOver (suc n)
takes_over n f bit = ⊎_elim (λ e. e) (λ w. absurd (omega (arith, w.0, w.1))) (fed_counted (suc n) bit n f)

-- a counter that has come to m comes to m + 1, unless that is beyond its bound
pub up_from : (m run n : ℕ) → m ≤ run → m < n → suc m ≤ up_of run n
unfolding up_of
up_from m run n h k = by_cond (λ (x : ℕ). suc m ≤ x) (ltb run n) (λ _. omega arith) (λ _. omega arith)

row_from : (s : Stat) (v : ℕ) → 1 ≤ in_row s v
unfolding in_row
row_from s v = by_cond (λ (x : ℕ). 1 ≤ x) (eqb v s.value) (λ _. up_from 0 s.run 3 (omega arith) (omega arith)) (λ _. omega arith)

row_next : (s : Stat) (v : ℕ) → in_row (stat_of s false v) v ≡ up_of (in_row s v) 3
unfolding in_row stat_of
row_next s v = rw (eq-eqb v v refl)

third : (b : Stat) (v : ℕ) → in_row b v ≡ 3 → ((stat_of b false v).known ≡ true) × ((stat_of b false v).accepted ≡ v)
unfolding stat_of
third b v e = (rw e, rw e)

pub accepts : (s : Stat) (v : ℕ) → Accepts s v
accepts s v =
    let a : Stat = stat_of s false v in
    let b : Stat = stat_of a false v in
    let two : 2 ≤ in_row a v = rw row_next (up_from 1 (in_row s v) 3 (row_from s v) (omega arith)) in
    let three : 3 ≤ in_row b v = rw row_next (up_from 2 (in_row a v) 3 two (omega arith)) in
    let most : in_row b v ≤ 3 = in_row_most b v in
    let t = third b v (omega arith) in
    record { known = t.0; accepted = t.1 }
