-- The ranges with the pending second are kept: by a mark, and by every list of calls from fresh. Assumes nothing.
use Prim.Native.Nat.{ℕ, zero, suc, ◌+◌, ◌≤◌, zero-le}
use mathlib.Core.Path.{◌≡◌, refl, subst⁻¹}
use mathlib.Core.Bool.{Bool, true, false, cond, ◌||◌}
use mathlib.Core.List.{List, [], ◌∷◌, ◌++◌}
use native.Mathlib.Omega.{arith}
use lib.Dec.{eqb, leb, ltb}
use lib.ListN.{length, get_or, take, drop, replicate}
use lib.Seq.{drop-drop}
use borrow.Author.Tests.{le-leb, eqb-true}
use Rattle.answer.proofs.Cond.{by_cond}
use Rattle.settings.specs.Ranges.{SettingsIn}
use Rattle.settings.specs.declared.Settings.{Settings}
use Rattle.second.specs.declared.Near.{Near}
use Rattle.second.specs.declared.Far.{Far}
use Rattle.second.specs.declared.Sum.{Sum}
use Rattle.second.specs.declared.Blocks.{Blocks}
use Rattle.second.specs.declared.Second.{Second}
use Rattle.second.specs.Second.{discard_of, closed_of, figures_of}
use Rattle.supervisor.specs.Supervisor.{fresh_of, mark_of}
use Rattle.history.specs.Ranges.{BlocksIn, AllAtMost, SecondIn}
use Rattle.tandem.specs.Levels.{five_of, level_figures}
use Rattle.tandem.specs.Tandem.{fresh_tandem, marked_of}
use Rattle.tandem.specs.declared.Level.{Level}
use Rattle.tandem.specs.declared.Tandem.{Tandem}
use Rattle.watch.specs.Watch.{LevelCall, gives, records, frames, marks, tandem_by}
use Rattle.ranges.specs.Sound.{below}
use Rattle.ranges.proofs.Below.{below_all, below_append, below_front, below_rest, flag_leb}
use Rattle.slot.specs.Slot.{five_greatest, figures_ranged}
use Rattle.late.specs.Late.{LateMarked, five_by, fresh_late, void_five, void_levels, voided, late_marked}
use Rattle.late.specs.declared.Erred.{Erred}
use Rattle.late.specs.declared.Late.{Late}
use Rattle.reports.specs.Reports.{late_by, late_after}
use Rattle.bays.specs.Ranges.{OneIn, AllIn, TandemIn, CallBytes}
use Rattle.bays.proofs.Kept.{tandem_kept}
use Rattle.slots.specs.Ranges.{LateIn, LateKept}

-- a layer's values, after discard too
discard_in : (b : Blocks) (iae biae : Bool) → BlocksIn b → BlocksIn (discard_of b iae biae)
unfolding discard_of
discard_in b iae biae i = record {
  near = by_cond (λ (x : Near). x.0 ≤ 400000) iae (λ _. omega arith) (λ _. i.near);
  far = by_cond (λ (x : Far). x.0 ≤ 400000) (iae || biae) (λ _. omega arith) (λ _. i.far);
  sum = by_cond (λ (x : Sum). x.0 ≤ 3200000) (iae || biae) (λ _. omega arith) (λ _. i.sum);
}

five_below : (b : Blocks) → BlocksIn b → below five_greatest (five_by b) ≡ true
unfolding below
five_below b i =
    rw (
      le-leb b.near.0 400000 i.near,
      le-leb b.far.0 400000 i.far,
      flag_leb b.neards,
      flag_leb b.fards,
      le-leb b.sum.0 3200000 i.sum,
    )

level_below : (l : Level) → OneIn l → below five_greatest (five_of l) ≡ true
unfolding five_of below
level_below l i =
    by_cond (λ (v : List ℕ). below five_greatest v ≡ true) l.given
    (λ _. five_below (discard_of l.second.blocks l.second.iae l.second.biae) (discard_in l.second.blocks l.second.iae l.second.biae i.blocks))
    (λ _. refl)

-- n groups of five
abbrev groups : ℕ → List ℕ
groups zero = []
groups (suc n) = five_greatest ++ groups n

levels_below : (ls : List Level) → AllIn ls → below (groups (length ls)) (level_figures ls) ≡ true
unfolding level_figures below
levels_below [] i = refl
levels_below (l ∷ ls) i = below_append five_greatest (groups (length ls)) (five_of l) (level_figures ls) (level_below l i.0) (levels_below ls i.1)

-- each of ten heads
head_low : (n : ℕ) (l : List ℕ) (i : ℕ) → AllAtMost n l → leb (get_or l i 0) n ≡ true
head_low n l i a = le-leb (get_or l i 0) n (low l i a)
  where
    low : (l : List ℕ) (i : ℕ) → AllAtMost n l → get_or l i 0 ≤ n
    low [] i a = zero-le
    low (x ∷ l) zero a = a.0
    low (x ∷ l) (suc i) a = low l i a.1

-- frames, heads, section and path of a second that is closed
base_below : (n : ℕ) (c : Second) → SecondIn c → below (replicate 11 400000 ++ (five_greatest ++ five_greatest)) (drop 1 (figures_of n (closed_of c))) ≡ true
unfolding below closed_of
base_below n c i =
    let h : (k : ℕ) → leb (get_or c.heads k 0) 400000 ≡ true = λ k. head_low 400000 c.heads k i.heads in
    let d = discard_in c.section c.iae c.biae i.section in
    rw (
      le-leb c.frames.0 400000 i.frames,
      h 0,
      h 1,
      h 2,
      h 3,
      h 4,
      h 5,
      h 6,
      h 7,
      h 8,
      h 9,
      le-leb (discard_of c.section c.iae c.biae).near.0 400000 d.near,
      le-leb (discard_of c.section c.iae c.biae).far.0 400000 d.far,
      flag_leb (discard_of c.section c.iae c.biae).neards,
      flag_leb (discard_of c.section c.iae c.biae).fards,
      le-leb (discard_of c.section c.iae c.biae).sum.0 3200000 d.sum,
      le-leb c.path.near.0 400000 i.path.near,
      le-leb c.path.far.0 400000 i.path.far,
      flag_leb c.path.neards,
      flag_leb c.path.fards,
      le-leb c.path.sum.0 3200000 i.path.sum,
    )

-- the figures behind the number of a second that a mark closes
pub closed_below : (t : Tandem) → TandemIn t → (marked_of t).refusal ≡ 0 → figures_ranged (drop 1 (marked_of t).figures) ≡ true
unfolding marked_of mark_of
closed_below t i e = by (ltb t.base.seconds 4294967295) refl
  where
    by : (b : Bool) → ltb t.base.seconds 4294967295 ≡ b → figures_ranged (drop 1 (marked_of t).figures) ≡ true
    by true q =
        let l = rw i.six at (levels_below t.levels i.levels) in
        rw q
        (below_append (replicate 11 400000 ++ (five_greatest ++ five_greatest)) (groups 6) (drop 1 (figures_of (t.base.seconds + 1) (closed_of t.base.second))) (level_figures t.levels)
        (base_below (t.base.seconds + 1) t.base.second i.base.second) l)
    by false q = let z : ◌≡◌ {A = ℕ} 4 0 = rw q at e in absurd (omega arith)

-- Discarded again, figures stay in their ranges.

void_below : (e : Erred) (v : List ℕ) → below five_greatest v ≡ true → below five_greatest (void_five e v) ≡ true
unfolding below void_five
void_below e v h =
    let m : (i : ℕ) → get_or v i 0 ≤ get_or five_greatest i 0 = below_all five_greatest v h in
    let z : (b : Bool) (x n : ℕ) → x ≤ n → leb (cond b 0 x) n ≡ true = λ b x n l. by_cond (λ (y : ℕ). leb y n ≡ true) b (λ _. le-leb 0 n zero-le) (λ _. le-leb x n l) in
    rw (
      z e.iae (get_or v 0 0) 400000 (m 0),
      z (e.iae || e.biae) (get_or v 1 0) 400000 (m 1),
      z e.iae (get_or v 2 0) 1 (m 2),
      z (e.iae || e.biae) (get_or v 3 0) 1 (m 3),
      z (e.iae || e.biae) (get_or v 4 0) 3200000 (m 4),
    )

void_levels_below : (es : List Erred) (v : List ℕ) → below (groups (length es)) v ≡ true → below (groups (length es)) (void_levels es v) ≡ true
unfolding void_levels below
void_levels_below [] v h = refl
void_levels_below (e ∷ es) v h =
    below_append five_greatest (groups (length es)) (void_five e (take 5 v)) (void_levels es (drop 5 v))
    (void_below e (take 5 v) (below_front five_greatest (groups (length es)) v h))
    (void_levels_below es (drop 5 v) (below_rest five_greatest (groups (length es)) v h))

pub voided_ranged : (e : Erred) (es : List Erred) (v : List ℕ) → length es ≡ 6 → figures_ranged v ≡ true → figures_ranged (voided e es v) ≡ true
unfolding voided
voided_ranged e es v n h =
    let h11 = below_rest (replicate 11 400000) (groups 8) v h in
    let h16 = rw (drop-drop 5 11 v) at (below_rest five_greatest (groups 7) (drop 11 v) h11) in
    let h21 = rw (drop-drop 5 16 v) at (below_rest five_greatest (groups 6) (drop 16 v) h16) in
    let l = rw n at (void_levels_below es (drop 21 v) (subst⁻¹ (λ (k : ℕ). below (groups k) (drop 21 v) ≡ true) n h21)) in
    below_append (replicate 11 400000) (groups 8) (take 11 v) _ (below_front (replicate 11 400000) (groups 8) v h)
    (below_append five_greatest (groups 7) (void_five e (take 5 (drop 11 v))) _ (void_below e (take 5 (drop 11 v)) (below_front five_greatest (groups 7) (drop 11 v) h11))
    (below_append five_greatest (groups 6) (take 5 (drop 16 v)) _ (below_front five_greatest (groups 6) (drop 16 v) h16) l))

-- A mark, fresh, and every list of calls.

marked_in_lem : (s : Late) → LateIn s → LateIn (late_marked s).late
unfolding late_marked
marked_in_lem s i =
    by_cond (λ (x : LateMarked). LateIn x.late) (eqb (marked_of s.tandem).refusal 0)
    (λ e. record { tandem = tandem_kept.marked s.tandem i.tandem; pending = closed_below s.tandem i.tandem (eqb-true _ _ e) })
    (λ _. i)

fresh_in : (p : Settings) → SettingsIn p → LateIn (fresh_late (fresh_tandem (fresh_of p)))
unfolding below
fresh_in p i = record { tandem = tandem_kept.fresh p i; pending = refl }

handed_in : (cs : List LevelCall) (s : Late) → LateIn s → CallBytes cs → LateIn (late_after s cs)
unfolding late_after late_by tandem_by
handed_in [] s i b = i
handed_in (gives n r names ∷ cs) s i b = handed_in cs _ (record { tandem = tandem_kept.given s.tandem i.tandem n r names; pending = i.pending }) b
handed_in (records n r names ∷ cs) s i b = handed_in cs _ (record { tandem = tandem_kept.recorded s.tandem i.tandem n r names; pending = i.pending }) b
handed_in (frames f counts ∷ cs) s i b = handed_in cs _ (record { tandem = tandem_kept.framed s.tandem i.tandem f counts b.0; pending = i.pending }) b.1
handed_in (marks ∷ cs) s i b = handed_in cs _ (marked_in_lem s i) b

pub late_kept : LateKept
late_kept = record {
  fresh = fresh_in;
  marked = marked_in_lem;
  always = λ p i cs b. handed_in cs (fresh_late (fresh_tandem (fresh_of p))) (fresh_in p i) b;
}
