-- Laws of what is put into lent bytes, from a place on. Assumes nothing.
use Rattle.std.proofs.Common.{ℕ, ◌≡◌, ◌+◌, ◌-◌, ◌≤◌, ◌<◌, List, [], ◌∷◌, ◌++◌, length, take, drop, arith, sym, ap, ◌∙◌, min}
use Rattle.std.proofs.Math.Seq.{drop-drop}
use Rattle.std.proofs.lemmas.List.{append_assoc, length-take-le, take_all, take_min}
use borrow.Author.Tests.{le-leb, lt-leb}
use borrow.Rule.Slice.PartMut.{put_mid}
use Rattle.answer.specs.Over.{over}
use Rattle.answer.proofs.Overs.{over_nil}
use Rattle.listing.specs.Text.{fitted}

-- what is put, and the place after it, where a line has its room
pub fits : (d o v : List ℕ) (at r room : ℕ) → room ≤ length d - at → r ≡ at + length v → o ≡ over d at v
    → (r ≡ at + length (fitted (length d) at room v)) × (o ≡ over d at (fitted (length d) at room v))
unfolding fitted
fits d o v at r room h place text = rw (le-leb room (length d - at) h) (place, text)

-- and where it has not
pub fits_not : (d v : List ℕ) (at room : ℕ) → length d - at < room
    → (at ≡ at + length (fitted (length d) at room v)) × (d ≡ over d at (fitted (length d) at room v))
unfolding fitted
fits_not d v at room h = rw (lt-leb room (length d - at) h) (omega arith, over_nil d at)

-- a text of no bytes is put at any place, beyond the end too
pub text_fits_not : (d v : List ℕ) (at : ℕ) → length d < at + length v
    → (at ≡ at + length (fitted (length d) at (length v) v)) × (d ≡ over d at (fitted (length d) at (length v) v))
text_fits_not d [] at h = fits d d [] at at 0 (omega arith) (omega arith) (over_nil d at)
text_fits_not d (x ∷ v) at h = fits_not d (x ∷ v) at (length (x ∷ v)) (omega arith)

-- a text that is no longer than a line's room has its own room where the line has that
pub in_room : (d o v w : List ℕ) (at r room : ℕ) → w ≡ v → length w ≤ room → room ≤ length d - at
    → (r ≡ at + length (fitted (length d) at (length w) w)) × (o ≡ over d at (fitted (length d) at (length w) w))
    → (r ≡ at + length (fitted (length d) at room v)) × (r ≤ at + room) × (o ≡ over d at (fitted (length d) at room v))
unfolding fitted
in_room d o v w at r room e l h x =
    let y : (r ≡ at + length w) × (o ≡ over d at w) = rw (le-leb (length w) (length d - at) (omega arith)) at x in
    let z = fits d o v at r room h (y.0 ∙ ap (λ (t : List ℕ). at + length t) e) (y.1 ∙ ap (λ (t : List ℕ). over d at t) e) in
    (z.0, omega (arith, y.0), z.1)

-- what a slice holds once v has been copied over a part of it
pub copied : (d v w : List ℕ) (at k : ℕ) → w ≡ v → k ≡ length v → put_mid at k d w ≡ over d at v
unfolding over
copied d v w at k e n =
    ap (λ (x : List ℕ). put_mid at k d x) e
    ∙ ap (λ (m : ℕ). put_mid at m d v) n
    ∙ ap (λ (r : List ℕ). take at d ++ (v ++ r)) (drop-drop (length v) at d)
    ∙ sym (append_assoc (take at d) v (drop (at + length v) d))

-- the first of fifty-two figures
pub first_of : (fs : List ℕ) (n k : ℕ) → length fs ≡ 52 → k ≡ min n 52 → take 52 (take k fs) ≡ take n fs
first_of fs n k l e =
    let m : min n 52 ≤ 52 = omega arith in
    let short : length (take k fs) ≤ 52 = omega (arith, length-take-le k fs (omega arith)) in
    take_all 52 (take k fs) short ∙ rw (e, ← l) (take_min n fs)
