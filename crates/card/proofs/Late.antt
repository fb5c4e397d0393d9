-- The supervisor's bytes with the pending second behind them: what is done in the first 2448 leaves it, and a mark puts the second just closed in its place.
-- Assumes nothing.
use mathlib.Core.Path.{◌≡◌, refl, sym, ap, ◌∙◌}
use mathlib.Core.Bool.{Bool, true, false, ◌&&◌}
use mathlib.Core.List.{List, [], ◌∷◌, ◌++◌, append-nil}
use Prim.Native.Nat.{ℕ, zero, suc, ◌+◌, ◌*◌, ◌≤◌, ◌<◌}
use native.Mathlib.Nat.{zero-add}
use native.Mathlib.Omega.{arith}
use lib.ListN.{length, get_or, take, drop, replicate, length-drop, drop_of_length-le}
use lib.Seq.{length-take-le, take_all, take_at, drop_at, take-take, drop-drop}
use borrow.Author.Tests.{eq-eqb, ne_eqb, lt-ltb}
use Rattle.codec.specs.Over.{bytes_in, poured}
use Rattle.codec.proofs.Overs.{poured_all, bytes_room}
use Rattle.words.specs.Words.{flat, words_in}
use Rattle.words.proofs.Words.{words_room}
use Rattle.numbers.specs.declared.State.{State}
use Rattle.numbers.specs.Numbers.{state_in}
use Rattle.numbers.specs.Held.{held_in}
use Rattle.numbers.proofs.Strips.{both}
use Rattle.image.specs.Image.{load_of}
use Rattle.image.proofs.Parts.{bytes_in_bytes}
use Rattle.supervisor.specs.Supervisor.{mark_of}
use Rattle.supervisor.specs.declared.Supervisor.{Supervisor}
use Rattle.tandem.specs.Tandem.{fresh_tandem, marked_of}
use Rattle.tandem.specs.declared.Tandem.{Tandem}
use Rattle.late.specs.Late.{fresh_late, section_erred, levels_erred, voided, next_report, late_marked}
use Rattle.late.specs.declared.Erred.{Erred}
use Rattle.slot.specs.Slot.{slot_sound}
use Rattle.bays.specs.Image.{tandem_bytes, tandem_from, tandem_sound, levels_in}
use Rattle.slots.specs.Image.{late_bytes, late_from, late_sound}
use Rattle.slots.proofs.Figures.{slot_long, slot_stays}
use Rattle.slots.proofs.Trip.{same_late, late_bytes_lem, slot_sound_lem}
use Rattle.slots.proofs.Kept.{closed_below}
use Rattle.card.specs.Calls.{tandem_of, late_with, erred_in}

-- The test.

all_last : (l : List ℕ) → length l ≡ 2652 → take 204 (drop 2448 l) ≡ drop 2448 l
all_last l n = take_all 204 (drop 2448 l) (omega (arith, length-drop 2448 l))

pub late_is : (l : List ℕ) (x y : Bool) → length l ≡ 2652 → x ≡ tandem_sound (take 2448 l) → y ≡ slot_sound (take 204 (drop 2448 l)) → (x && y) ≡ late_sound l
unfolding late_sound
late_is l x y n ex ey = rw (eq-eqb (length l) 2652 n, ex, ey, all_last l n)

pub late_not : (l : List ℕ) → (length l ≡ 2652 → ⊥) → false ≡ late_sound l
unfolding late_sound
late_not l n = rw (ne_eqb (length l) 2652 n)

-- Bytes within the first bytes are those bytes.
window : (n k m : ℕ) (l : List ℕ) → k + n ≤ m → m ≤ length l → take n (drop k (take m l)) ≡ take n (drop k l)
window n k m l h j =
    let q : length (take m l) ≡ m = length-take-le m l j in
    sym (bytes_room n k (take m l) (omega arith))
    ∙ ap (bytes_in n k) (sym (bytes_room m 0 l (omega arith)))
    ∙ bytes_in_bytes n k m 0 l (omega arith) h
    ∙ ap (λ (i : ℕ). bytes_in n i l) (zero-add k)
    ∙ bytes_room n k l (omega arith)

-- The first 2448 written, and then the slot.

abbrev first_over : List ℕ → List ℕ → List ℕ
first_over l x = x ++ drop 2448 l

abbrev slot_over : List ℕ → List ℕ → List ℕ
slot_over l y = take 2448 l ++ (y ++ drop 204 (drop 2448 l))

module _ (l x y v : List ℕ) (n : length l ≡ 2652) (e : length x ≡ 2448) (k : length v ≡ 204) (p : y ≡ poured (take 204 (drop 2448 (first_over l x))) v) where
  poured_slot : y ≡ v
  poured_slot =
      let s : take 204 (drop 2448 (first_over l x)) ≡ drop 2448 l = ap (take 204) (drop_at x (drop 2448 l) 2448 e) ∙ all_last l n in
      let m : length v ≡ length (drop 2448 l) = omega (arith, length-drop 2448 l) in
      rw s at p ∙ poured_all (drop 2448 l) v m

  both_over : slot_over (first_over l x) y ≡ x ++ v
  both_over =
      let z : drop 204 (drop 2448 l) ≡ [] = drop_of_length-le (drop 2448 l) {i = 204} (omega (arith, length-drop 2448 l)) in
      rw (take_at x (drop 2448 l) 2448 e, drop_at x (drop 2448 l) 2448 e, z, append-nil, poured_slot)

-- A fresh supervisor.

no_figures : flat (replicate 51 0) ≡ replicate 204 0
unfolding flat
no_figures = refl

pub stored_late : (l x y : List ℕ) (s : Supervisor) → length l ≡ 2652 → length x ≡ 2448 → x ≡ tandem_bytes (fresh_tandem s)
    → y ≡ poured (take 204 (drop 2448 (first_over l x))) (replicate 204 0) → slot_over (first_over l x) y ≡ late_bytes (fresh_late (fresh_tandem s))
unfolding late_bytes
stored_late l x y s n e ex ey = both_over l x y (replicate 204 0) n e refl ey ∙ both ex (sym no_figures)

-- pIAE and pBIAE.

pub erred_is : (r w : List ℕ) (s : State) → w ≡ bytes_in 32 32 r → s ≡ state_in w → ◌≡◌ {A = Erred} (record { iae = s.iaeseen; biae = s.biaeseen }) (erred_in (held_in r))
unfolding held_in
erred_is r w s ew es = rw (es, ew)

pub section_is : (l : List ℕ) (e : Erred) → length l ≡ 2448 → e ≡ erred_in (held_in (take 288 (drop 112 l))) → e ≡ section_erred (tandem_from l)
unfolding tandem_from load_of
section_is l e n ee =
    let r = bytes_room 288 112 (take 688 l) (omega (arith, length-take-le 688 l (omega arith))) ∙ window 288 112 688 l (omega arith) (omega arith) in
    ee ∙ ap (λ (x : List ℕ). erred_in (held_in x)) (sym r)

pub levels_are : (l : List ℕ) (a b c d e f : Erred) → length l ≡ 2448
    → a ≡ erred_in (held_in (take 288 (drop 720 l))) → b ≡ erred_in (held_in (take 288 (drop 1008 l))) → c ≡ erred_in (held_in (take 288 (drop 1296 l)))
    → d ≡ erred_in (held_in (take 288 (drop 1584 l))) → e ≡ erred_in (held_in (take 288 (drop 1872 l))) → f ≡ erred_in (held_in (take 288 (drop 2160 l)))
    → (a ∷ b ∷ c ∷ d ∷ e ∷ f ∷ []) ≡ levels_erred (tandem_from l)
unfolding tandem_from levels_in
levels_are l a b c d e f n ea eb ec ed ee ef =
    let one : drop 32 (drop 688 l) ≡ drop 720 l = drop-drop 32 688 l in
    let two : drop 288 (drop 720 l) ≡ drop 1008 l = drop-drop 288 720 l in
    let three : drop 288 (drop 1008 l) ≡ drop 1296 l = drop-drop 288 1008 l in
    let four : drop 288 (drop 1296 l) ≡ drop 1584 l = drop-drop 288 1296 l in
    let five : drop 288 (drop 1584 l) ≡ drop 1872 l = drop-drop 288 1584 l in
    let six : drop 288 (drop 1872 l) ≡ drop 2160 l = drop-drop 288 1872 l in
    rw (one, two, three, four, five, six, ea, eb, ec, ed, ee, ef)

abbrev pub neither : Erred
neither = record { iae = false; biae = false }

module _ (l : List ℕ) (n : length l ≡ 2448) where
  -- that of level i + 1
  abbrev erred_at : ℕ → Erred
  erred_at i = erred_in (held_in (take 288 (drop (720 + 288 * i) l)))

  six_erred : (erred_at 0 ∷ erred_at 1 ∷ erred_at 2 ∷ erred_at 3 ∷ erred_at 4 ∷ erred_at 5 ∷ []) ≡ levels_erred (tandem_from l)
  six_erred = levels_are l _ _ _ _ _ _ n refl refl refl refl refl refl

  pub levels_long : length (levels_erred (tandem_from l)) ≡ 6
  levels_long = ap length (sym six_erred)

  pub erred_here : (i w : ℕ) (e d : Erred) → i < 6 → w ≡ 288 → e ≡ erred_in (held_in (take w (drop (720 + 288 * i) l)))
      → e ≡ get_or (levels_erred (tandem_from l)) i d
  erred_here i w e d h k ee = rw k at ee ∙ at i h ∙ ap (λ (x : List Erred). get_or x i d) six_erred
    where
      at : (i : ℕ) → i < 6 → erred_at i ≡ get_or (erred_at 0 ∷ erred_at 1 ∷ erred_at 2 ∷ erred_at 3 ∷ erred_at 4 ∷ erred_at 5 ∷ []) i d
      at zero h = refl
      at (suc zero) h = refl
      at (suc (suc zero)) h = refl
      at (suc (suc (suc zero))) h = refl
      at (suc (suc (suc (suc zero)))) h = refl
      at (suc (suc (suc (suc (suc zero))))) h = refl
      at (suc (suc (suc (suc (suc (suc i)))))) h = absurd (omega arith)

pub report_is : (l pending told r : List ℕ) (section : Erred) (levels : List Erred) (number : ℕ) → length l ≡ 2652 → number ≡ (late_from l).tandem.base.seconds
    → pending ≡ words_in 51 2448 l → section ≡ section_erred (tandem_from (take 2448 l)) → levels ≡ levels_erred (tandem_from (take 2448 l))
    → told ≡ voided section levels pending → r ≡ flat (number ∷ told) → r ≡ flat (next_report (late_from l))
unfolding late_from
report_is l pending told r section levels number n en ep es el et er = er ∙ rw (et, es, el, ep, en, words_room 51 2448 l (omega arith))

-- the figures but the first, as words
behind : (ws : List ℕ) → drop 4 (flat ws) ≡ flat (drop 1 ws)
unfolding flat
behind [] = refl
behind (w ∷ ws) = refl

-- a mark is accepted where fewer seconds are closed
pub mark_accepted : (t : Tandem) → t.base.seconds < 4294967295 → (marked_of t).refusal ≡ 0
unfolding marked_of mark_of
mark_accepted t h = rw (lt-ltb t.base.seconds 4294967295 h)

-- what is said of the supervisor is said of its first bytes
pub k_first : (l : List ℕ) (k : ℕ) → k ≡ (late_from l).tandem.base.settings.k → k ≡ (tandem_from (take 2448 l)).base.settings.k
unfolding late_from
k_first l k e = e

pub number_first : (l : List ℕ) (n : ℕ) → n ≡ (late_from l).tandem.base.seconds + 1 → n ≡ (tandem_from (take 2448 l)).base.seconds + 1
unfolding late_from
number_first l n e = e

-- In sound bytes.

module _ (l : List ℕ) (b : late_sound l ≡ true) where
  pub first_long : length (take 2448 l) ≡ 2448
  first_long = let n = late_bytes_lem l b in length-take-le 2448 l (omega arith)

  -- what is read of line, section and path, and of the levels
  pub base_here : (tandem_of l).base ≡ load_of (take 688 l)
  unfolding late_from tandem_from
  base_here = ap load_of (take-take 688 2448 l (omega arith))

  pub bay_here : take 1760 (drop 688 (take 2448 l)) ≡ take 1760 (drop 688 l)
  bay_here = let n = late_bytes_lem l b in window 1760 688 2448 l (omega arith) (omega arith)

  pub tandem_here : tandem_of l ≡ tandem_from (take 2448 l)
  unfolding late_from
  tandem_here = refl

  -- the pending second stays
  pub slot_kept : (t : Tandem) (x : List ℕ) → x ≡ tandem_bytes t → first_over l x ≡ late_with l t
  unfolding late_bytes late_from
  slot_kept t x ex = both ex (sym (slot_stays (drop 2448 l) (slot_sound_lem l b)))

  pub marked_late : (number : ℕ) (x y bytes : List ℕ) → number ≡ (tandem_of l).base.seconds + 1 → number ≤ 4294967295 → length x ≡ 2448
      → bytes ≡ flat (marked_of (tandem_from (take 2448 l))).figures → x ≡ tandem_bytes (marked_of (tandem_from (take 2448 l))).tandem
      → y ≡ poured (take 204 (drop 2448 (first_over l x))) (take 204 (drop 4 bytes)) → slot_over (first_over l x) y ≡ late_bytes (late_marked (late_from l)).late
  unfolding late_marked late_bytes late_from
  marked_late number x y bytes en h nx eb ex ey =
      let t : Tandem = tandem_from (take 2448 l) in
      let z : (marked_of t).refusal ≡ 0 = mark_accepted t (omega (arith, en, h)) in
      let f : List ℕ = drop 1 (marked_of t).figures in
      let i = (same_late.untested l b).tandem in
      let k : length (flat f) ≡ 204 = slot_long f (closed_below t i z) in
      let w : take 204 (drop 4 bytes) ≡ flat f = rw (eb, behind (marked_of t).figures) (take_all 204 (flat f) (omega arith)) in
      rw z (both_over l x y (flat f) (late_bytes_lem l b) nx k (rw w at ey) ∙ both ex refl)
