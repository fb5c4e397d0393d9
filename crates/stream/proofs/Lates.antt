-- A mark of a supervisor with its pending second: what it is to the supervisor, and how many figures it has. Assumes nothing.
use Prim.Native.Nat.{ℕ, ◌*◌}
use mathlib.Core.Path.{◌≡◌, refl, ◌∙◌, ap}
use mathlib.Core.Bool.{Bool, true, false}
use mathlib.Core.List.{List, [], ◌∷◌}
use native.Mathlib.Omega.{arith}
use lib.Dec.{eqb}
use lib.ListN.{length, take, drop, length-append, length-drop, length-map}
use lib.Seq.{length-take-le}
use Rattle.supervisor.specs.Supervisor.{mark_of}
use Rattle.tandem.specs.Tandem.{marked_of}
use Rattle.tandem.specs.declared.Tandem.{Tandem}
use Rattle.watch.specs.Watch.{LevelCall, gives, records, frames, marks, tandem_by, tandem_after}
use Rattle.late.specs.Late.{level_erred, void_five, void_levels, voided, section_erred, levels_erred, late_marked}
use Rattle.late.specs.declared.Erred.{Erred}
use Rattle.late.specs.declared.Late.{Late}
use Rattle.reports.specs.Reports.{late_by, late_after}

-- refused where the supervisor's own mark is, and the supervisor is the one that it hands back
pub late_refusal : (s : Late) → (late_marked s).refusal ≡ (marked_of s.tandem).refusal
unfolding late_marked marked_of
late_refusal s = by (eqb (mark_of s.tandem.base).refusal 0) refl
  where
    by : (b : Bool) → eqb (mark_of s.tandem.base).refusal 0 ≡ b → (late_marked s).refusal ≡ (marked_of s.tandem).refusal
    by true e = rw e
    by false e = rw (e, e)

pub late_tandem : (s : Late) → (late_marked s).late.tandem ≡ (marked_of s.tandem).tandem
unfolding late_marked marked_of
late_tandem s = by (eqb (mark_of s.tandem.base).refusal 0) refl
  where
    by : (b : Bool) → eqb (mark_of s.tandem.base).refusal 0 ≡ b → (late_marked s).late.tandem ≡ (marked_of s.tandem).tandem
    by true e = rw e
    by false e = rw (e, e)

-- after calls the supervisor is what it is without a pending second
pub late_by_lem : (s : Late) (c : LevelCall) → (late_by s c).tandem ≡ tandem_by s.tandem c
unfolding late_by tandem_by
late_by_lem s (gives n r names) = refl
late_by_lem s (records n r names) = refl
late_by_lem s (frames f counts) = refl
late_by_lem s marks = late_tandem s

pub late_after_lem : (s : Late) (cs : List LevelCall) → (late_after s cs).tandem ≡ tandem_after s.tandem cs
unfolding late_after tandem_after
late_after_lem s [] = refl
late_after_lem s (c ∷ cs) = late_after_lem (late_by s c) cs ∙ ap (λ (t : Tandem). tandem_after t cs) (late_by_lem s c)

-- the discard leaves as many figures
void_levels_long : (es : List Erred) (v : List ℕ) → length (void_levels es v) ≡ 5 * length es
unfolding void_levels void_five
void_levels_long [] v = refl
void_levels_long (e ∷ es) v = omega (arith, void_levels_long es (drop 5 v))

five_long : (e : Erred) (w : List ℕ) → length (void_five e w) ≡ 5
unfolding void_five
five_long e w = refl

voided_long : (section : Erred) (es : List Erred) (v : List ℕ) → length v ≡ 51 → length es ≡ 6 → length (voided section es v) ≡ 51
unfolding voided
voided_long section es v long six =
    let a : length (take 11 v) ≡ 11 = length-take-le 11 v (omega arith) in
    let b : length (take 5 (drop 16 v)) ≡ 5 = length-take-le 5 (drop 16 v) (simp length-drop (omega arith)) in
    let c = void_levels_long es (drop 21 v) in
    let d : length (void_five section (take 5 (drop 11 v))) ≡ 5 = five_long section (take 5 (drop 11 v)) in
    rw (length-append (take 11 v) _, length-append (void_five section (take 5 (drop 11 v))) _, length-append (take 5 (drop 16 v)) _, a, b, c, d) (omega arith)

pub reported_long : (s : Late) → length s.pending ≡ 51 → length s.tandem.levels ≡ 6
    → length (voided (section_erred s.tandem) (levels_erred s.tandem) s.pending) ≡ 51
reported_long s long six = voided_long (section_erred s.tandem) (levels_erred s.tandem) s.pending long (length-map s.tandem.levels level_erred ∙ six)
