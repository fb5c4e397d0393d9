-- Laws of printed bytes. Assumes nothing.
use Rattle.std.proofs.Common.{ℕ, zero, suc, ◌+◌, ◌<◌, ◌≡◌, List, [], ◌∷◌, ◌++◌, length, take, refl, ap, ◌∙◌, sym, arith}
use Rattle.std.proofs.lemmas.List.{append_assoc}
use Rattle.std.proofs.Math.ListN.{get_or}
use Rattle.change.specs.Change.{printable_of, readable_of}

pub readable_length : (bs : List ℕ) → length (readable_of bs) ≡ length bs
unfolding readable_of
readable_length [] = refl
readable_length (b ∷ bs) = ap suc (readable_length bs)

pub readable_at : (bs : List ℕ) (i : ℕ) → i < length bs → get_or (readable_of bs) i 0 ≡ printable_of (get_or bs i 0)
unfolding readable_of
readable_at [] i h = absurd (omega arith)
readable_at (b ∷ bs) zero h = refl
readable_at (b ∷ bs) (suc i) h = readable_at bs i (omega arith)

readable_suc : (bs : List ℕ) (i : ℕ) → i < length bs → readable_of (take (suc i) bs) ≡ readable_of (take i bs) ++ (printable_of (get_or bs i 0) ∷ [])
unfolding readable_of
readable_suc [] i h = absurd (omega arith)
readable_suc (b ∷ bs) zero h = refl
readable_suc (b ∷ bs) (suc i) h = ap (λ (l : List ℕ). printable_of b ∷ l) (readable_suc bs i (omega arith))

-- one byte more behind what stands
pub readable_more : (d bs : List ℕ) (i : ℕ) → i < length bs → (d ++ readable_of (take i bs)) ++ (printable_of (get_or bs i 0) ∷ []) ≡ d ++ readable_of (take (i + 1) bs)
readable_more d bs i h =
    let e : i + 1 ≡ suc i = omega arith in
    append_assoc d (readable_of (take i bs)) (printable_of (get_or bs i 0) ∷ []) ∙ ap (λ (l : List ℕ). d ++ l) (rw e (sym (readable_suc bs i h)))
