-- The accepted value is the one that last stood three frames in a row. Assumes nothing.
use mathlib.Core.Path.{◌≡◌, refl, sym, ◌∙◌}
use mathlib.Core.Bool.{Bool, true, false, cond, ◌&&◌, ◌||◌}
use mathlib.Core.List.{List, [], ◌∷◌}
use Prim.Native.Nat.{ℕ}
use lib.Dec.{eqb}
use Rattle.filter.specs.declared.Stat.{Stat}
use Rattle.filter.specs.Filter.{up_of}
use Rattle.filter.specs.Stat.{no_stat, in_row, stat_of}
use Rattle.filter.specs.Stood.{none, value, last_three, Told, values_since, stat_after, value_in, StatIs}

-- how often the first value stands at the front, and 3 at most
abbrev front : List ℕ → ℕ
front [] = 0
front (a ∷ []) = 1
front (a ∷ (b ∷ [])) = cond (eqb a b) 2 1
front (a ∷ (b ∷ (c ∷ l))) = cond (eqb a b) (cond (eqb b c) 3 2) 1

first_or : List ℕ → ℕ → ℕ
first_or [] d = d
first_or (a ∷ l) d = a

-- what the definitions keep of the values
record Kept (l : List ℕ) (s : Stat) : Type 0 where
  run : s.run ≡ front l
  value : s.value ≡ first_or l 0
  found : value_in s ≡ last_three l

-- the run with one value more
row_is : (l : List ℕ) (s : Stat) (v : ℕ) → s.run ≡ front l → s.value ≡ first_or l 0 → in_row s v ≡ front (v ∷ l)
unfolding in_row up_of first_or
row_is [] s v r e = rw (r, e) (by (eqb v 0))
  where
    by : (t : Bool) → ◌≡◌ {A = ℕ} (cond t 1 1) 1
    by true = refl
    by false = refl
row_is (a ∷ []) s v r e = rw (r, e)
row_is (a ∷ (b ∷ [])) s v r e = rw (r, e) (by (eqb v a) (eqb a b))
  where
    by : (t u : Bool) → ◌≡◌ {A = ℕ} (cond t (up_of (cond u 2 1) 3) 1) (cond t (cond u 3 2) 1)
    by true true = refl
    by true false = refl
    by false u = refl
row_is (a ∷ (b ∷ (c ∷ l))) s v r e = rw (r, e) (by (eqb v a) (eqb a b) (eqb b c))
  where
    by : (t u w : Bool) → ◌≡◌ {A = ℕ} (cond t (up_of (cond u (cond w 3 2) 1) 3) 1) (cond t (cond u 3 2) 1)
    by true true true = refl
    by true true false = refl
    by true false w = refl
    by false u w = refl

-- the third in a row is found, and otherwise what was
three : (l : List ℕ) (v : ℕ) → last_three (v ∷ l) ≡ cond (eqb (front (v ∷ l)) 3) (value v) (last_three l)
three [] v = refl
three (a ∷ []) v = by (eqb v a)
  where
    by : (t : Bool) → none ≡ cond (eqb (cond t 2 1) 3) (value v) none
    by true = refl
    by false = refl
three (a ∷ (b ∷ l)) v = by (eqb v a) (eqb a b)
  where
    by : (t u : Bool) → cond (t && u) (value v) (last_three (a ∷ (b ∷ l))) ≡ cond (eqb (cond t (cond u 3 2) 1) 3) (value v) (last_three (a ∷ (b ∷ l)))
    by true true = refl
    by true false = refl
    by false u = refl

found_step : (s : Stat) (v : ℕ) → value_in (stat_of s false v) ≡ cond (eqb (in_row s v) 3) (value v) (value_in s)
unfolding stat_of
found_step s v = by (eqb (in_row s v) 3)
  where
    by : (t : Bool) → cond (t || s.known) (value (cond t v s.accepted)) none ≡ cond t (value v) (cond s.known (value s.accepted) none)
    by true = refl
    by false = refl

kept_step : (l : List ℕ) (s : Stat) (v : ℕ) → Kept l s → Kept (v ∷ l) (stat_of s false v)
unfolding stat_of first_or
kept_step l s v k =
    let r : in_row s v ≡ front (v ∷ l) = row_is l s v k.run k.value in
    record { run = r; value = refl; found = found_step s v ∙ rw (r, k.found) (sym (three l v)) }

kept_none : Kept [] no_stat
unfolding first_or
kept_none = record { run = refl; value = refl; found = refl }

forgets : (s : Stat) (v : ℕ) → stat_of s true v ≡ no_stat
unfolding stat_of
forgets s v = refl

kept_told : (l : List ℕ) (s : Stat) (v : ℕ) (t : Bool) → Kept l s → Kept (cond t [] (v ∷ l)) (stat_of s t v)
kept_told l s v true k = rw (forgets s v) kept_none
kept_told l s v false k = kept_step l s v k

kept : (l : List Told) → Kept (values_since l) (stat_after l)
unfolding values_since stat_after
kept [] = kept_none
kept (x ∷ l) = kept_told (values_since l) (stat_after l) x.value x.forget (kept l)

pub stat_is : (l : List Told) → StatIs l
stat_is l = (kept l).found
