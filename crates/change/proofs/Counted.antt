-- A turn of a loop over two lists side by side, counted. Assumes nothing.
use Prim.Native.Nat.{ℕ, suc, ◌+◌, ◌<◌}
use mathlib.Core.Path.{◌≡◌, sym, ap, subst, ◌∙◌}
use mathlib.Core.List.{List, [], ◌∷◌}
use lib.ListN.{length, get_or, drop, length-drop}
use lib.Seq.{get_or-drop}
use native.Mathlib.Omega.{arith}
use Rattle.std.specs.Borrow.{Bor}
use Rattle.std.specs.declared.iter.Enumerate.{Enumerate}
use Rattle.std.specs.declared.iter.Zip.{Zip}
use Rattle.std.specs.declared.slice.Iter.{Iter}
use Rattle.std.specs.declared.option.Option.{Option}
use Rattle.std.specs.declared.option.Option.TheVariants.{Some}
use Rattle.std.specs.Iterator.{Yields}
use Rattle.std.specs.Iterator.Adapters.{zip_first, zip_second, enumerate_source, enumerate_count, enumerate_steps}
use Rattle.std.specs.Slice.Iter.{iter_rest}
use Rattle.std.proofs.lemmas.Fn.{fronts}
use Rattle.std.proofs.lemmas.Iterator.{zips}

abbrev Both : Type 0 → Type 0 → Type 0
Both A B = Enumerate (Zip (Iter A) (Iter B))

module _ {A B : Type 0} where
  abbrev left : Both A B → List A
  left s = iter_rest (zip_first (enumerate_source s))

  abbrev right : Both A B → List B
  right s = iter_rest (zip_second (enumerate_source s))

  so_far : (xs : List (ℕ × (Bor A × Bor B))) (s t : Both A B) → Yields (enumerate_steps (zips fronts fronts)) s xs t
      → (left t ≡ drop (length xs) (left s)) × (right t ≡ drop (length xs) (right s)) × (enumerate_count t ≡ enumerate_count s + length xs)
  so_far [] s t y = (ap left (sym y), ap right (sym y), ap enumerate_count (sym y) ∙ omega arith)
  so_far (x ∷ xs) s t y =
      let k = so_far xs y.0 t y.2 in (
        k.0 ∙ sym (ap (λ l. drop (suc (length xs)) l) y.1.0.0),
        k.1 ∙ sym (ap (λ l. drop (suc (length xs)) l) y.1.0.1),
        omega (arith, k.2, y.1.2),
      )

  pub counted_turn : (ks : List A) (vs : List B) (xs : List (ℕ × (Bor A × Bor B))) (s t u : Both A B) (r : Option (ℕ × (Bor A × Bor B))) → left s ≡ ks → right s ≡ vs → enumerate_count s ≡ 0
      → Yields (enumerate_steps (zips fronts fronts)) s xs t → (p : ℕ × (Bor A × Bor B)) → r ≡ Some p → enumerate_steps (zips fronts fronts) t r u
      → (length xs < length ks) × (length xs < length vs) × ((d : A) → p.1.0.now ≡ get_or ks (length xs) d) × ((d : B) → p.1.1.now ≡ get_or vs (length xs) d) × (p.0 ≡ length xs)
  counted_turn ks vs xs s t u r first second none y p e h =
      let k = so_far xs s t y in
      let g : enumerate_steps (zips fronts fronts) t (Some p) u = subst (λ o. enumerate_steps (zips fronts fronts) t o u) e h in
      let z : length xs + 0 ≡ length xs = omega arith in
      let a : p.1.0.now ∷ left u ≡ drop (length xs) ks = sym g.0.0 ∙ k.0 ∙ ap (λ l. drop (length xs) l) first in
      let b : p.1.1.now ∷ right u ≡ drop (length xs) vs = sym g.0.1 ∙ k.1 ∙ ap (λ l. drop (length xs) l) second in (
        omega (arith, ap length a, length-drop (length xs) ks),
        omega (arith, ap length b, length-drop (length xs) vs),
        (λ d. ap (λ l. get_or l 0 d) a ∙ get_or-drop (length xs) ks 0 d ∙ ap (λ n. get_or ks n d) z),
        (λ d. ap (λ l. get_or l 0 d) b ∙ get_or-drop (length xs) vs 0 d ∙ ap (λ n. get_or vs n d) z),
        omega (arith, k.2, none, g.1),
      )
