-- Figures discarded in their places: one layer's five, one level after the other, and all of a second. Assumes nothing.
use Prim.Native.Nat.{ℕ, ◌+◌, ◌*◌, ◌<◌, ◌≤◌}
use mathlib.Core.Path.{◌≡◌, refl, sym, ap, ◌∙◌}
use mathlib.Core.List.{List, [], ◌∷◌, ◌++◌, append_assoc, append-nil}
use native.Mathlib.Numerals.{add-one}
use native.Mathlib.Omega.{arith}
use lib.ListN.{length, get_or, take, drop, length-append, length-drop}
use lib.Seq.{take-suc, take-append-add, drop-append-add, drop_at, drop-drop, length-take-le, drop-length}
use borrow.Rule.Slice.PartMut.{mid_of, put_mid}
use Rattle.answer.specs.Over.{over}
use Rattle.answer.proofs.Overs.{over_over}
use Rattle.late.specs.Late.{void_five, void_levels, voided}
use Rattle.late.specs.declared.Erred.{Erred}

pub five_long : (e : Erred) (v : List ℕ) → length (void_five e v) ≡ 5
unfolding void_five
five_long e v = refl

-- five figures discarded within others
pub put_over : (v five : List ℕ) (at k : ℕ) (e : Erred) → k ≡ 5 → at + 5 ≤ length v → five ≡ void_five e (mid_of at k v)
    → put_mid at k v five ≡ over v at (void_five e (take 5 (drop at v)))
unfolding over
put_over v five at k e m room h =
    let f : five ≡ void_five e (take 5 (drop at v)) = rw m at h in
    rw (m, f, five_long e (take 5 (drop at v)), drop-drop 5 at v) (sym (append_assoc (take at v) (void_five e (take 5 (drop at v))) (drop (at + 5) v)))

-- what is written within a list leaves its length
pub put_long : (v five : List ℕ) (at k : ℕ) {n : ℕ} → length v ≡ n → length five ≡ k → at + k ≤ n → length (put_mid at k v five) ≡ n
put_long v five at k e f h = simp (length-append, length-drop, length-take-le at v (omega arith)) (omega arith)

levels_long : (es : List Erred) (v : List ℕ) → length (void_levels es v) ≡ 5 * length es
unfolding void_levels
levels_long [] v = refl
levels_long (e ∷ es) v = simp (length-append, five_long e (take 5 v), levels_long es (drop 5 v)) (omega arith)

-- one level more
levels_append : (es : List Erred) (e : Erred) (v : List ℕ) → void_levels (es ++ (e ∷ [])) v ≡ void_levels es v ++ void_five e (take 5 (drop (5 * length es) v))
unfolding void_levels
levels_append [] e v = append-nil _
levels_append (x ∷ es) e v =
    let n : 5 + 5 * length es ≡ 5 * length (x ∷ es) = omega arith in
    let h = rw (drop-drop (5 * length es) 5 v, n) at (levels_append es e (drop 5 v)) in
    ap (λ (w : List ℕ). void_five x (take 5 v) ++ w) h ∙ sym (append_assoc (void_five x (take 5 v)) _ _)

-- what stands behind a writing
behind_over : (d w : List ℕ) (at n : ℕ) → at ≤ length d → n ≡ at + length w → drop n (over d at w) ≡ drop n d
unfolding over
behind_over d w at n h e =
    let l : length (take at d ++ w) ≡ n = simp (length-append, length-take-le at d h) (sym e) in
    drop_at (take at d ++ w) (drop (at + length w) d) n l ∙ ap (λ (k : ℕ). drop k d) (sym e)

-- a turn of the loop over the levels
pub void_turn : (start out after : List ℕ) (es : List Erred) (i : ℕ) (d : Erred) → i < length es → 21 ≤ length start
    → out ≡ over start 21 (void_levels (take i es) (drop 21 start))
    → after ≡ over out (21 + 5 * i) (void_five (get_or es i d) (take 5 (drop (21 + 5 * i) out)))
    → after ≡ over start 21 (void_levels (take (i + 1) es) (drop 21 start))
void_turn start out after es i d h room eo ea =
    let v : List ℕ = void_levels (take i es) (drop 21 start) in
    let m : length (take i es) ≡ i = length-take-le i es (omega arith) in
    let n : 21 + 5 * i ≡ 21 + length v = rw (levels_long (take i es) (drop 21 start), m) in
    let b : drop (21 + 5 * i) out ≡ drop (21 + 5 * i) start = ap (drop (21 + 5 * i)) eo ∙ behind_over start v 21 (21 + 5 * i) room n in
    let g = rw (m, drop-drop (5 * i) 21 start) at (levels_append (take i es) (get_or es i d) (drop 21 start)) in
    let w : void_levels (take (i + 1) es) (drop 21 start) ≡ v ++ void_five (get_or es i d) (take 5 (drop (21 + 5 * i) start)) = rw (add-one, take-suc es i d h) g in
    rw (ea, b, w, eo) (over_over start 21 (21 + 5 * i) v (void_five (get_or es i d) (take 5 (drop (21 + 5 * i) start))) room n)

-- the section's, then the levels': all of a second
pub void_whole : (v start : List ℕ) (section : Erred) (es : List Erred) → length v ≡ 51 → length es ≡ 6
    → start ≡ over v 11 (void_five section (take 5 (drop 11 v)))
    → over start 21 (void_levels es (drop 21 start)) ≡ voided section es v
unfolding voided over
void_whole v start section es l k e =
    let five : List ℕ = void_five section (take 5 (drop 11 v)) in
    let n : length five ≡ 5 = five_long section (take 5 (drop 11 v)) in
    let a : length (take 11 v ++ five) ≡ 16 = simp (length-append, n, length-take-le 11 v (omega arith)) refl in
    let s : start ≡ (take 11 v ++ five) ++ drop 16 v = rw (e, n) in
    let t : take 21 start ≡ (take 11 v ++ five) ++ take 5 (drop 16 v) = rw s (rw a at (take-append-add (take 11 v ++ five) (drop 16 v) 5)) in
    let d : drop 21 start ≡ drop 21 v = rw s (rw a at (drop-append-add (take 11 v ++ five) (drop 16 v) 5) ∙ drop-drop 5 16 v) in
    let z : length (void_levels es (drop 21 v)) ≡ 30 = rw (levels_long es (drop 21 v), k) in
    let x : List ℕ = void_levels es (drop 21 v) in
    let q : length start ≡ 51 = rw s (simp (length-append (take 11 v ++ five) (drop 16 v), a, length-drop) (omega arith)) in
    let f : drop (21 + length x) start ≡ [] = rw z (rw q at (drop-length start)) in
    let g : take 11 v ++ five ++ take 5 (drop 16 v) ++ x ≡ take 11 v ++ (five ++ (take 5 (drop 16 v) ++ x)) = simp append_assoc refl in
    rw (d, f, t) (append-nil (take 11 v ++ five ++ take 5 (drop 16 v) ++ x) ∙ g)
