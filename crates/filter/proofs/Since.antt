-- A filter of n and n without its counter: it is on exactly where `On` and `on_by` say. Assumes nothing.
use mathlib.Core.Path.{◌≡◌, refl, ap, sym, ◌∙◌}
use mathlib.Core.Bool.{Bool, true, false, not, cond, true≢false, false≢true}
use mathlib.Core.List.{List, [], ◌∷◌, ◌++◌, head-eq_of_cons-eq, tail-eq_of_cons-eq, nil≢cons}
use Prim.Native.Nat.{ℕ, suc, ◌+◌, ◌≤◌, ◌<◌, zero-le, suc-le-suc}
use native.Mathlib.Omega.{arith}
use borrow.Author.Tests.{eqb-true, eqb-false, le-leb, lt-leb}
use lib.Dec.{eqb}
use lib.ListN.{drop, replicate}
use Rattle.answer.proofs.Cond.{by_cond}
use Rattle.filter.specs.declared.Filter.{Filter}
use Rattle.filter.specs.Filter.{up_of, quiet, filter_of}
use Rattle.filter.specs.Since.{NoRun, On, Given, filter_after, bits_since, row, on_by, FilterIs}
use Rattle.filter.proofs.Bounds.{up_plain}
use Rattle.filter.proofs.Runs.{lead, lead_run, run_lead, row_lead, lead_stop, no_nil, no_more, no_tail}

-- n 0s at the front: not on
zeros_off : (n : ℕ) (l : List Bool) → suc n ≤ lead false l → On (suc n) l → ⊥
zeros_off n l h o =
    let k : suc n ≤ lead false o.since = rw (← (lead_stop o.since (replicate n true ++ o.before)), ← o.is) h in
    o.none [] (drop (suc n) o.since) (lead_run (suc n) false o.since k)

-- `on_by` with one bit more: the bit, where the latest n are alike, and otherwise what it was
on_more : (n : ℕ) (x : Bool) (l : List Bool) → on_by (suc n) (x ∷ l) ≡ cond (row (suc n) x (x ∷ l)) x (on_by (suc n) l)
unfolding on_by row
on_more n true l = refl
on_more n false l = refl

-- so a bit like it keeps it, the n-th in a row is taken over, and before the n-th it stays
on_alike : (n : ℕ) (x : Bool) (l : List Bool) → on_by (suc n) l ≡ x → on_by (suc n) (x ∷ l) ≡ x
on_alike n x l e = on_more n x l ∙ by_cond (λ (z : Bool). z ≡ x) (row (suc n) x (x ∷ l)) (λ _. refl) (λ _. e)

on_taken : (n : ℕ) (x : Bool) (l : List Bool) → suc n ≤ lead x (x ∷ l) → on_by (suc n) (x ∷ l) ≡ x
on_taken n x l h = on_more n x l ∙ rw (row_lead (suc n) x (x ∷ l), le-leb (suc n) (lead x (x ∷ l)) h)

on_kept : (n : ℕ) (x : Bool) (l : List Bool) → lead x (x ∷ l) < suc n → on_by (suc n) (x ∷ l) ≡ on_by (suc n) l
on_kept n x l h = on_more n x l ∙ rw (row_lead (suc n) x (x ∷ l), lt-leb (suc n) (lead x (x ∷ l)) h)

-- the filter after the bits, and what is known of it
record Known (n : ℕ) (l : List Bool) (s : Filter) : Type 0 where
  run_is : s.run ≡ lead (not s.on) l
  small : s.run < n
  up : s.on ≡ true → On n l
  down : s.on ≡ false → On n l → ⊥
  value : on_by n l ≡ s.on

-- off stays off where the front is no n 1s
off_cons : (n : ℕ) (x : Bool) (l : List Bool) → (On (suc n) l → ⊥) → ((a : List Bool) → x ∷ l ≡ replicate (suc n) true ++ a → ⊥)
    → (c a : List Bool) → x ∷ l ≡ c ++ (replicate (suc n) true ++ a) → NoRun (suc n) false c → ⊥
off_cons n x l k first [] a p q = first a p
off_cons n x l k first (y ∷ c) a p q =
    k (record { since = c; before = a; is = tail-eq_of_cons-eq p; none = no_tail (suc n) false y c q })

-- a 0 while on, a 1 while off: t says whether it is the n-th
zero_while_on : (n : ℕ) (l : List Bool) (r : ℕ) (t : Bool) → eqb (up_of r (suc n)) (suc n) ≡ t → Known (suc n) l (record { on = true; run = r })
    → Known (suc n) (false ∷ l) (cond t (record { on = false; run = 0 }) (record { on = true; run = up_of r (suc n) }))
zero_while_on n l r true e k =
    let u : up_of r (suc n) ≡ r + 1 = up_plain r (suc n) k.small in
    let z : up_of r (suc n) ≡ suc n = eqb-true _ _ e in
    let h : suc n ≤ r + 1 = omega arith in
    record {
      run_is = refl;
      small = suc-le-suc zero-le;
      up = λ z. absurd (false≢true z);
      down = λ _. zeros_off n (false ∷ l) (omega (arith, k.run_is, h));
      value = on_taken n false l (omega (arith, k.run_is, h));
    }
zero_while_on n l r false e k =
    let u : up_of r (suc n) ≡ r + 1 = up_plain r (suc n) k.small in
    let d = eqb-false (up_of r (suc n)) (suc n) e in
    let h : r + 1 < suc n = omega (arith, d, k.small) in
    let o : On (suc n) l = k.up refl in
    let z : lead false l ≡ lead false o.since = ap (lead false) o.is ∙ lead_stop o.since (replicate n true ++ o.before) in
    record {
      run_is = omega (arith, k.run_is);
      small = omega arith;
      up = λ _. record {
        since = false ∷ o.since;
        before = o.before;
        is = ap (λ (m : List Bool). false ∷ m) o.is;
        none = no_more (suc n) false false o.since (omega (arith, k.run_is, z, h)) o.none;
      };
      down = λ x. absurd (true≢false x);
      value = on_kept n false l (omega (arith, k.run_is, h)) ∙ k.value;
    }

one_while_off : (n : ℕ) (l : List Bool) (r : ℕ) (t : Bool) → eqb (up_of r (suc n)) (suc n) ≡ t → Known (suc n) l (record { on = false; run = r })
    → Known (suc n) (true ∷ l) (cond t (record { on = true; run = 0 }) (record { on = false; run = up_of r (suc n) }))
one_while_off n l r true e k =
    let u : up_of r (suc n) ≡ r + 1 = up_plain r (suc n) k.small in
    let z : up_of r (suc n) ≡ suc n = eqb-true _ _ e in
    let h : suc n ≤ r + 1 = omega arith in
    record {
      run_is = refl;
      small = suc-le-suc zero-le;
      up = λ _. record {
        since = [];
        before = drop (suc n) (true ∷ l);
        is = lead_run (suc n) true (true ∷ l) (omega (arith, k.run_is, h));
        none = no_nil n false;
      };
      down = λ x. absurd (true≢false x);
      value = on_taken n true l (omega (arith, k.run_is, h));
    }
one_while_off n l r false e k =
    let u : up_of r (suc n) ≡ r + 1 = up_plain r (suc n) k.small in
    let d = eqb-false (up_of r (suc n)) (suc n) e in
    let h : r + 1 < suc n = omega (arith, d, k.small) in
    record {
      run_is = omega (arith, k.run_is);
      small = omega arith;
      up = λ z. absurd (false≢true z);
      down = λ _ o. off_cons n true l (k.down refl)
          (λ a p. omega (arith, k.run_is, h, run_lead (suc n) true (true ∷ l) a p))
          o.since o.before o.is o.none;
      value = on_kept n true l (omega (arith, k.run_is, h)) ∙ k.value;
    }

known_step : (n : ℕ) (l : List Bool) (o : Bool) (r : ℕ) (x : Bool) → Known (suc n) l (record { on = o; run = r })
    → Known (suc n) (x ∷ l) (filter_of (record { on = o; run = r }) (suc n) false x)
unfolding filter_of
known_step n l true r true k = record {
  run_is = refl;
  small = suc-le-suc zero-le;
  up = λ e. let o : On (suc n) l = k.up refl in
      record { since = true ∷ o.since; before = o.before; is = ap (λ (m : List Bool). true ∷ m) o.is; none = no_more (suc n) false true o.since (suc-le-suc zero-le) o.none };
  down = λ e. absurd (true≢false e);
  value = on_alike n true l k.value;
}
known_step n l true r false k = zero_while_on n l r (eqb (up_of r (suc n)) (suc n)) refl k
known_step n l false r true k = one_while_off n l r (eqb (up_of r (suc n)) (suc n)) refl k
known_step n l false r false k = record {
  run_is = refl;
  small = suc-le-suc zero-le;
  up = λ z. absurd (false≢true z);
  down = λ _ o. off_cons n false l (k.down refl) (λ a p. false≢true (head-eq_of_cons-eq p)) o.since o.before o.is o.none;
  value = on_alike n false l k.value;
}

off_start : (n : ℕ) → On (suc n) [] → ⊥
off_start n o = go o.since o.is
  where
    go : (c : List Bool) → [] ≡ c ++ (replicate (suc n) true ++ o.before) → ⊥
    go [] p = nil≢cons p
    go (y ∷ c) p = nil≢cons p

known_none : (n : ℕ) → Known (suc n) [] quiet
unfolding on_by
known_none n = record { run_is = refl; small = suc-le-suc zero-le; up = λ z. absurd (false≢true z); down = λ _. off_start n; value = refl }

filter_forgets : (f : Filter) (n : ℕ) (x : Bool) → filter_of f n true x ≡ quiet
unfolding filter_of
filter_forgets f n x = refl

-- one more, by whether it forgets
known_given : (n : ℕ) (l : List Bool) (f : Filter) (g : Given) → Known (suc n) l f
    → Known (suc n) (cond g.forget [] (g.bit ∷ l)) (filter_of f (suc n) g.forget g.bit)
known_given n l f g k = by_forget g.forget
  where
    by_forget : (t : Bool) → Known (suc n) (cond t [] (g.bit ∷ l)) (filter_of f (suc n) t g.bit)
    by_forget true = rw (filter_forgets f (suc n) g.bit) (known_none n)
    by_forget false = known_step n l f.on f.run g.bit k

known : (n : ℕ) (gs : List Given) → Known (suc n) (bits_since gs) (filter_after (suc n) gs)
unfolding filter_after bits_since
known n [] = known_none n
known n (g ∷ gs) = known_given n (bits_since gs) (filter_after (suc n) gs) g (known n gs)

bool_cases : (b : Bool) → (b ≡ false → ⊥) → b ≡ true
bool_cases true f = refl
bool_cases false f = absurd (f refl)

-- the filter of n after any frames
pub filter_on : (n : ℕ) (gs : List Given) → FilterIs (suc n) gs
filter_on n gs =
    let k : Known (suc n) (bits_since gs) (filter_after (suc n) gs) = known n gs in
    record { on = (k.up, λ o. bool_cases _ (λ e. k.down e o)); value = sym k.value }
