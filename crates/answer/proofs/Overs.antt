-- Laws of writing over: nothing, a byte, one writing after another, a list copied byte by byte, and the start. Assumes nothing.
use Prim.Native.Nat.{ℕ, ◌+◌, ◌≤◌, ◌<◌}
use mathlib.Core.Path.{◌≡◌, ◌∙◌, ap, sym}
use mathlib.Core.List.{List, [], ◌∷◌, ◌++◌, append_assoc, append-nil}
use native.Mathlib.Nat.{add_assoc, add-zero}
use native.Mathlib.Numerals.{add-one}
use native.Mathlib.Omega.{arith}
use lib.ListN.{length, get_or, set, drop, take, length-drop, length-append, take-append-drop}
use lib.Seq.{drop-drop, take_at, drop_at, set_split, append_snoc, length-take-le, take-suc}
use Rattle.answer.specs.Over.{over}

pub over_nil : (d : List ℕ) (at : ℕ) → d ≡ over d at []
unfolding over
over_nil d at = rw (append-nil, add-zero, take-append-drop)

pub set_over : (d : List ℕ) (at b : ℕ) → at < length d → set d at b ≡ over d at (b ∷ [])
unfolding over
set_over d at b h = rw (append_snoc, add-one) (set_split d at b h)

pub over_length : (d : List ℕ) (at : ℕ) (v : List ℕ) → at + length v ≤ length d → length (over d at v) ≡ length d
unfolding over
over_length d at v h = simp (length-append, length-drop, length-take-le at d (omega arith)) (omega arith)

-- what is written after what is written is one writing
pub over_over : (d : List ℕ) (at n : ℕ) (v w : List ℕ) → at ≤ length d → n ≡ at + length v → over (over d at v) n w ≡ over d at (v ++ w)
unfolding over
over_over d at n v w h e =
    let p : List ℕ = take at d ++ v in
    let q : List ℕ = drop (at + length v) d in
    let l : length p ≡ n = simp (length-append, length-take-le at d h) (sym e) in
    rw (take_at p q n l, ← drop-drop (length w) n (p ++ q), drop_at p q n l, drop-drop (length w) (at + length v) d, length-append v w, add_assoc at (length v) (length w), append_assoc (take at d) v w)

-- one byte more of a list that is copied over
pub over_suc : (d src : List ℕ) (at i : ℕ) (out : List ℕ) → at + i < length out → length out ≡ length d → i < length src
    → out ≡ over d at (take i src) → set out (at + i) (get_or src i 0) ≡ over d at (take (i + 1) src)
over_suc d src at i out h l k e =
    set_over out (at + i) (get_or src i 0) h
    ∙ ap (λ (o : List ℕ). over o (at + i) (get_or src i 0 ∷ [])) e
    ∙ over_over d at (at + i) (take i src) (get_or src i 0 ∷ []) (omega arith) (ap (λ (n : ℕ). at + n) (sym (length-take-le i src (omega arith))))
    ∙ ap (over d at) (rw (add-one, take-suc src i 0))

-- what was put at the start is what stands there
pub over_start : (d v : List ℕ) (n : ℕ) → n ≡ length v → take n (over d 0 v) ≡ v
unfolding over
over_start d v n e = take_at v (drop (0 + length v) d) n (sym e)
