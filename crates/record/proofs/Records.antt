-- Laws of `record_of`: one for each of its five ends, what a record that is not refused says of its list, and that more bytes after it do not
-- change it; and the law of `records_from`, that skipping bytes is dropping them. Assumes nothing.
use Prim.Native.Nat.{ℕ, zero, suc, pred, ◌+◌, ◌-◌, ◌≤◌, ◌<◌}
use mathlib.Core.Path.{◌≡◌, refl, ◌∙◌, ap}
use mathlib.Core.Bool.{Bool, true, false, cond}
use mathlib.Core.List.{List, [], ◌∷◌, ◌++◌}
use native.Mathlib.Nat.{add_assoc, add-zero}
use native.Mathlib.Omega.{arith}
use lib.Dec.{eqb, ltb}
use lib.ListN.{length, drop, take, length-drop, length-append, get_or-append}
use lib.Seq.{get_or-drop, drop-drop, take-append-le, drop-append-le}
use borrow.Author.Tests.{lt-ltb, le-ltb, eq-eqb, ne_eqb, ltb-true, ltb-false, eqb-false}
use Rattle.record.specs.Record.{record_of, record_at, of_kind, length_of, refusal_in, two_at, size_of, records_from, records_of, body_of, Within}
use Rattle.record.specs.declared.Record.{Record}
use Rattle.record.specs.declared.Record.TheVariants.{Frame, Mark, Provisioning, Level, LevelFrame, Refused}

module _ (s : List ℕ) (at : ℕ) where
  pub two_drop : (i : ℕ) → two_at (drop at s) i ≡ two_at s (at + i)
  two_drop i = simp (get_or-drop, add_assoc)

  pub two_drop_0 : two_at (drop at s) 0 ≡ two_at s at
  two_drop_0 = simp (get_or-drop, add-zero)

  pub few : length s - at < 4 → record_at s at ≡ Refused 14
  unfolding record_of
  few h = simp (length-drop, lt-ltb _ _ h)

  module _ (h : 4 ≤ length s - at) where
    pub other : length_of (of_kind (two_at s (at + 2))) ≡ 0 → record_at s at ≡ Refused 15
    unfolding record_of
    other e = rw (length-drop, le-ltb _ _ h, two_drop 2, eq-eqb _ _ e)

    module _ (k : length_of (of_kind (two_at s (at + 2))) ≡ 0 → ⊥) where
      pub wrong : (two_at s at ≡ length_of (of_kind (two_at s (at + 2))) → ⊥) → record_at s at ≡ Refused 15
      unfolding record_of
      wrong e = rw (length-drop, le-ltb _ _ h, two_drop 2, ne_eqb _ _ k, two_drop_0, ne_eqb _ _ e)

      module _ (e : two_at s at ≡ length_of (of_kind (two_at s (at + 2)))) where
        pub short : length s - at < length_of (of_kind (two_at s (at + 2))) + 2 → record_at s at ≡ Refused 14
        unfolding record_of
        short l = rw (length-drop, le-ltb _ _ h, two_drop 2, ne_eqb _ _ k, two_drop_0, eq-eqb _ _ e, lt-ltb _ _ l)

        pub all : length_of (of_kind (two_at s (at + 2))) + 2 ≤ length s - at → record_at s at ≡ of_kind (two_at s (at + 2))
        unfolding record_of
        all l = rw (length-drop, le-ltb _ _ h, two_drop 2, ne_eqb _ _ k, two_drop_0, eq-eqb _ _ e, le-ltb _ _ l)

-- a part of s from a record's body on is part of what follows the record's start
pub part_is : (s : List ℕ) (at end : ℕ) → take (at + end - (at + 4)) (drop (at + 4) s) ≡ take (end - 4) (drop 4 (drop at s))
part_is s at end =
    let n : at + end - (at + 4) ≡ end - 4 = omega arith in
    rw (n, drop-drop 4 at s)

-- What the record that a list begins with says of the list: it is whole there, or its refusal is 14 or 15, and 14 only in a list that is
-- shorter than the longest record.
abbrev pub Whole : List ℕ → Record → Type 0
Whole ys Frame = 71 ≤ length ys
Whole ys Mark = 4 ≤ length ys
Whole ys Provisioning = 83 ≤ length ys
Whole ys Level = 44 ≤ length ys
Whole ys LevelFrame = 77 ≤ length ys
Whole ys (Refused n) = (0 < n) × (n ≡ 14 → length ys < 83)

pub whole_record : (ys : List ℕ) → Whole ys (record_of ys)
unfolding record_of
whole_record ys = by_few (ltb (length ys) 4) refl
  where
    k : Record
    k = of_kind (two_at ys 2)

    by_whole : (r : Record) → (length_of r ≡ 0 → ⊥) → length_of r + 2 ≤ length ys → Whole ys r
    by_whole Frame z h = h
    by_whole Mark z h = h
    by_whole Provisioning z h = h
    by_whole Level z h = h
    by_whole LevelFrame z h = h
    by_whole (Refused n) z h = absurd (z refl)

    longest : (r : Record) → length_of r + 2 ≤ 83
    longest Frame = omega arith
    longest Mark = omega arith
    longest Provisioning = omega arith
    longest Level = omega arith
    longest LevelFrame = omega arith
    longest (Refused n) = omega arith

    by_cut : (a : Bool) → ltb (length ys) (length_of k + 2) ≡ a → (length_of k ≡ 0 → ⊥) → Whole ys (cond a (Refused 14) k)
    by_cut true p z = (omega arith, λ _. omega (arith, ltb-true (length ys) (length_of k + 2) p, longest k))
    by_cut false p z = by_whole k z (ltb-false (length ys) (length_of k + 2) p)

    by_length : (a : Bool) → (length_of k ≡ 0 → ⊥) → Whole ys (cond a (cond (ltb (length ys) (length_of k + 2)) (Refused 14) k) (Refused 15))
    by_length true z = by_cut (ltb (length ys) (length_of k + 2)) refl z
    by_length false z = (omega arith, λ e. omega (arith, e))

    by_kind : (a : Bool) → eqb (length_of k) 0 ≡ a → Whole ys (cond a (Refused 15) (cond (eqb (two_at ys 0) (length_of k)) (cond (ltb (length ys) (length_of k + 2)) (Refused 14) k) (Refused 15)))
    by_kind true p = (omega arith, λ e. omega (arith, e))
    by_kind false p = by_length (eqb (two_at ys 0) (length_of k)) (eqb-false (length_of k) 0 p)

    by_few : (a : Bool) → ltb (length ys) 4 ≡ a → Whole ys (cond a (Refused 14) (cond (eqb (length_of k) 0) (Refused 15) (cond (eqb (two_at ys 0) (length_of k)) (cond (ltb (length ys) (length_of k + 2)) (Refused 14) k) (Refused 15))))
    by_few true p = (omega arith, λ _. omega (arith, ltb-true (length ys) 4 p))
    by_few false p = by_kind (eqb (length_of k) 0) refl

-- the body of the record at a position lies within
pub within_at : (s : List ℕ) (at : ℕ) (r : Record) → at < length s → Whole (drop at s) r → Within s at r
within_at s at Frame l h = omega (arith, simp length-drop at h)
within_at s at Mark l h = omega (arith, simp length-drop at h)
within_at s at Provisioning l h = omega (arith, simp length-drop at h)
within_at s at Level l h = omega (arith, simp length-drop at h)
within_at s at LevelFrame l h = omega (arith, simp length-drop at h)
within_at s at (Refused n) l h = tt

two_append : (zs ys : List ℕ) (i : ℕ) → i + 1 < length zs → two_at (zs ++ ys) i ≡ two_at zs i
two_append zs ys i h = rw (get_or-append zs ys 0 i (omega arith), get_or-append zs ys 0 (i + 1) h)

-- the record at the front of a list that is not cut stands at the front of every longer one
pub record_append : (zs ys : List ℕ) → (record_of zs ≡ Refused 14 → ⊥) → record_of (zs ++ ys) ≡ record_of zs
unfolding record_of
record_append zs ys = by_few (ltb (length zs) 4) refl
  where
    k : Record
    k = of_kind (two_at zs 2)

    long : length (zs ++ ys) ≡ length zs + length ys
    long = length-append zs ys

    End : Bool → Bool → Bool → Bool → Record
    End a b c d = cond a (Refused 14) (cond b (Refused 15) (cond c (cond d (Refused 14) k) (Refused 15)))

    by_cut : (d : Bool) → 4 ≤ length zs → ltb (length zs) (length_of k + 2) ≡ d → (b c : Bool) → (End false b c d ≡ Refused 14 → ⊥) → End false b c (ltb (length (zs ++ ys)) (length_of k + 2)) ≡ End false b c d
    by_cut true l p true c n = refl
    by_cut true l p false true n = absurd (n refl)
    by_cut true l p false false n = refl
    by_cut false l p b c n = rw (le-ltb (length (zs ++ ys)) (length_of k + 2) (omega (arith, long, ltb-false (length zs) (length_of k + 2) p)))

    by_few : (a : Bool) → ltb (length zs) 4 ≡ a → (End a (eqb (length_of k) 0) (eqb (two_at zs 0) (length_of k)) (ltb (length zs) (length_of k + 2)) ≡ Refused 14 → ⊥) → record_of (zs ++ ys) ≡ End a (eqb (length_of k) 0) (eqb (two_at zs 0) (length_of k)) (ltb (length zs) (length_of k + 2))
    by_few true p n = absurd (n refl)
    by_few false p n =
        let l : 4 ≤ length zs = ltb-false (length zs) 4 p in
        rw (le-ltb (length (zs ++ ys)) 4 (omega (arith, long, l)), two_append zs ys 0 (omega (arith, l)), two_append zs ys 2 (omega (arith, l)))
        (by_cut (ltb (length zs) (length_of k + 2)) l refl (eqb (length_of k) 0) (eqb (two_at zs 0) (length_of k)) n)

-- and so does its body
part_append : (zs ys : List ℕ) (n : ℕ) → n + 4 ≤ length zs → take n (drop 4 (zs ++ ys)) ≡ take n (drop 4 zs)
part_append zs ys n h =
    let m : n ≤ length (drop 4 zs) = simp length-drop (omega arith) in
    rw (drop-append-le 4 zs ys (omega arith), take-append-le n (drop 4 zs) ys m)

pub body_append : (zs ys : List ℕ) (r : Record) → (refusal_in r ≡ 0) → Whole zs r → body_of r (zs ++ ys) ≡ body_of r zs
body_append zs ys Frame e h = part_append zs ys 67 h
body_append zs ys Mark e h = part_append zs ys 0 h
body_append zs ys Provisioning e h = part_append zs ys 79 h
body_append zs ys Level e h = part_append zs ys 40 h
body_append zs ys LevelFrame e h = part_append zs ys 73 h
body_append zs ys (Refused n) e h = absurd (omega (arith, e, h.0))

-- the records: skipping bytes is dropping them, and after a record come those of what follows it
records_skip : (l : List ℕ) (k : ℕ) → records_from l k ≡ records_of (drop k l)
unfolding records_from
records_skip [] zero = refl
records_skip [] (suc k) = refl
records_skip (y ∷ ys) zero = refl
records_skip (y ∷ ys) (suc k) = records_skip ys k

drop_one_more : (y : ℕ) (ys : List ℕ) (m : ℕ) → 0 < m → drop (pred m) ys ≡ drop m (y ∷ ys)
drop_one_more y ys zero h = absurd (omega arith)
drop_one_more y ys (suc k) h = refl

pub records_next : (ys : List ℕ) → 0 < length ys → records_of ys ≡ ys ∷ records_of (drop (size_of (record_of ys)) ys)
unfolding records_from
records_next [] h = absurd (omega arith)
records_next (y ∷ ys) h =
    let m : ℕ = size_of (record_of (y ∷ ys)) in
    ap (λ (l : List (List ℕ)). (y ∷ ys) ∷ l) (records_skip ys (pred m) ∙ ap records_of (drop_one_more y ys m (omega arith)))
