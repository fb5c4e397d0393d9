-- Laws of what is told of the levels: a turn of a loop over them, and that levels with which nothing changed are not told. Assumes nothing.
use Prim.Native.Nat.{ℕ, zero, suc, ◌+◌, ◌-◌, ◌<◌}
use mathlib.Core.Path.{◌≡◌, refl, ap, ◌∙◌}
use mathlib.Core.Bool.{Bool, true, false, cond, ◌&&◌}
use mathlib.Core.List.{List, [], ◌∷◌, ◌++◌, append_assoc, append-nil}
use lib.ListN.{length, get_or}
use native.Mathlib.Numerals.{add-one}
use native.Mathlib.Omega.{arith}
use borrow.Author.Tests.{eq-eqb}
use Rattle.answer.proofs.Each.{any_default}
use Rattle.names.specs.Names.{same_in, same_trace}
use Rattle.level.specs.declared.LevelStands.{LevelStands}
use Rattle.tandem.specs.Tandem.{nothing}
use Rattle.conditions.specs.Conditions.{Named, change_of, changes_of, level_conditions, level_changes}
use Rattle.change.specs.declared.Seen.{Seen}
use Rattle.change.specs.Change.{levels_to, words_of, level_trace, unseen, trace_of, told_of, trace_change, standing_changes, trace_changes, LevelsUntold}

-- of the elements at index i, what the rule tells is that of level i + 1
number_is : {A : Type 0} (g : ℕ → A → A → List ℕ) (xs ys : List A) (i : ℕ) (e e₁ e₂ : A) → i < length xs → i < length ys
    → g (i + 1) (get_or xs i e₁) (get_or ys i e₂) ≡ g (suc i) (get_or xs (suc i - 1) e) (get_or ys (suc i - 1) e)
number_is g xs ys i e e₁ e₂ h k =
    let n : suc i - 1 ≡ i = omega arith in
    rw (add-one i, n, any_default xs i e₁ e h, any_default ys i e₂ e k)

-- a turn of the loop: one level more is told
pub told_turn : {A : Type 0} {o₁ o₂ : List ℕ} (d : List ℕ) (g : ℕ → A → A → List ℕ) (xs ys : List A) (i : ℕ) (e e₁ e₂ : A) → i < length xs → i < length ys
    → o₁ ≡ d ++ levels_to (λ (j : ℕ). g j (get_or xs (j - 1) e) (get_or ys (j - 1) e)) i
    → o₂ ≡ o₁ ++ g (i + 1) (get_or xs i e₁) (get_or ys i e₂)
    → o₂ ≡ d ++ levels_to (λ (j : ℕ). g j (get_or xs (j - 1) e) (get_or ys (j - 1) e)) (i + 1)
unfolding levels_to
told_turn {A} {o₁} {o₂} d g xs ys i e e₁ e₂ h k x y =
    let f = λ (j : ℕ). g j (get_or xs (j - 1) e) (get_or ys (j - 1) e) in
    rw (add-one i) (y ∙ ap (λ (o : List ℕ). o ++ g (i + 1) (get_or xs i e₁) (get_or ys i e₂)) x ∙ append_assoc d (levels_to f i) (g (i + 1) (get_or xs i e₁) (get_or ys i e₂)) ∙ ap (λ (l : List ℕ). d ++ (levels_to f i ++ l)) (number_is g xs ys i e e₁ e₂ h k))

-- what is as it was is not told
change_untold : (name : List ℕ) (b : Bool) → change_of name b b ≡ []
unfolding change_of
change_untold name true = refl
change_untold name false = refl

pub same_untold : (xs : List Named) → changes_of xs xs ≡ []
unfolding changes_of
same_untold [] = refl
same_untold (x ∷ xs) = rw (change_untold x.name x.stands) (same_untold xs)

words_untold : (n : ℕ) (d : LevelStands) → level_changes n d d ≡ []
unfolding level_changes
words_untold n d = same_untold (level_conditions n d)

same_in_lem : (n from : ℕ) (a : List ℕ) → same_in n from a a ≡ true
unfolding same_in
same_in_lem zero from a = refl
same_in_lem (suc n) from a = rw (same_in_lem n from a, eq-eqb (get_or a (from + n) 0) (get_or a (from + n) 0) refl)

pub trace_untold : (name : List ℕ) (s : Seen) → trace_change name s s ≡ []
unfolding trace_change same_trace
trace_untold name s = rw (same_in_lem 64 0 s.trace) (by s.known)
  where
    by : (b : Bool) → cond b (cond (b && true) [] (told_of name s.trace)) (change_of name b false) ≡ []
    by true = refl
    by false = change_untold name false

none_told : (f : ℕ → List ℕ) → ((n : ℕ) → f n ≡ []) → (n : ℕ) → levels_to f n ≡ []
unfolding levels_to
none_told f h zero = refl
none_told f h (suc n) = rw (none_told f h n) (h (suc n))

-- levels with which nothing changed are not told
pub levels_untold : LevelsUntold
unfolding standing_changes trace_changes
levels_untold before after l t =
    let w : levels_to (words_of before.levels after.levels) 6 ≡ [] =
    rw l (none_told (words_of after.levels after.levels) (λ n. words_untold n (get_or after.levels (n - 1) nothing)) 6) in
    let v : levels_to (trace_of before.traces after.traces) 6 ≡ [] =
    rw t (none_told (trace_of after.traces after.traces) (λ n. trace_untold (level_trace n) (get_or after.traces (n - 1) unseen)) 6) in
    rw (w, v, append-nil)
