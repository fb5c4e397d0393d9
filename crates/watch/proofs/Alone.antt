-- A level by itself: what each call leaves of level n. Assumes nothing.
use Prim.Native.Nat.{ℕ, zero, suc, ◌+◌, ◌-◌, ◌*◌, ◌≤◌, ◌<◌}
use mathlib.Core.Path.{◌≡◌, refl, sym, ap, ◌∙◌}
use mathlib.Core.Bool.{Bool, true, false, ◌&&◌}
use mathlib.Core.List.{List, [], ◌∷◌, ◌++◌}
use native.Mathlib.Omega.{arith}
use lib.Dec.{leb, eqb, ltb}
use lib.ListN.{length, get_or, take, drop, set}
use lib.Seq.{get_or-set_same, get_or-set_other, take_at, drop-append-add}
use borrow.Author.Tests.{le-leb, leb-true, eq-eqb}
use Rattle.answer.specs.Each.{each_from}
use Rattle.answer.proofs.Checks.{passed}
use Rattle.answer.proofs.Cond.{by_cond, not_so}
use Rattle.answer.proofs.Each.{each_length, each_at}
use Rattle.overhead.specs.Overhead.{level_field}
use Rattle.settings.specs.Settings.{options_of}
use Rattle.settings.specs.declared.Request.{Request}
use Rattle.causes.specs.Causes.{path_ssf, report_of}
use Rattle.second.specs.Second.{closed_of, figures_of}
use Rattle.level.specs.declared.LevelStands.{LevelStands}
use Rattle.supervisor.specs.Supervisor.{step_refusal, step_of, mark_of, stands_after, frame_of, next_second}
use Rattle.history.specs.History.{Frame, stands_at, framed}
use Rattle.tandem.specs.Levels.{given_level, blank_level, stepped_level, marked_level, five_of, level_figures, count_at, frame_rule, mark_rule, framed_levels, marked_levels, level_at, placed_at, low_to}
use Rattle.tandem.specs.Tandem.{Given, given_by, give_refusal, give_of, frame_checks, frame_refusal, framed_of, marked_of, ssf_now, nothing, level_shown, shown_rule, shown_levels, level_report}
use Rattle.tandem.specs.declared.Level.{Level}
use Rattle.tandem.specs.declared.Tandem.{Tandem}
use Rattle.tandem.proofs.Turns.{five_long}
use Rattle.watch.specs.Watch.{refusal_at, framed_at, group_at, multi_at, own_frame, own_level, EachOneByOne}
use Rattle.watch.proofs.Silent.{refusal_same}

-- a number of the six
pub at_number : (ls : List Level) (n : ℕ) → 1 ≤ n → n ≤ 6 → level_at ls n ≡ get_or ls (n - 1) blank_level
at_number ls n low high = rw (le-leb 1 n low, le-leb n 6 high)

-- level n of levels that are made anew by a rule
pub at_each : (rule : ℕ → Level → Level) (ls : List Level) (n : ℕ) → length ls ≡ 6 → 1 ≤ n → n ≤ 6 → level_at (each_from rule 1 ls) n ≡ rule n (level_at ls n)
at_each rule ls n six low high =
    let h : n - 1 < length ls = omega arith in
    let k : 1 + (n - 1) ≡ n = omega arith in
    at_number (each_from rule 1 ls) n low high
    ∙ each_at rule 1 ls (n - 1) blank_level blank_level h
    ∙ ap (λ (m : ℕ). rule m (get_or ls (n - 1) blank_level)) k
    ∙ ap (rule n) (sym (at_number ls n low high))

-- the five figures of a level, by its place
five_at_lem : (ls : List Level) (i : ℕ) → i < length ls → take 5 (drop (5 * i) (level_figures ls)) ≡ five_of (get_or ls i blank_level)
unfolding level_figures
five_at_lem [] i h = absurd (omega arith)
five_at_lem (l ∷ ls) zero h = take_at (five_of l) (level_figures ls) 5 (five_long l)
five_at_lem (l ∷ ls) (suc i) h =
    let e : 5 * suc i ≡ length (five_of l) + 5 * i = rw (five_long l) (omega arith) in
    rw (e, drop-append-add (five_of l) (level_figures ls) (5 * i)) (five_at_lem ls i (omega arith))

pub group_at_lem : (base : List ℕ) (ls : List Level) (n : ℕ) → length base ≡ 22 → length ls ≡ 6 → 1 ≤ n → n ≤ 6
    → group_at (base ++ level_figures ls) n ≡ five_of (level_at ls n)
group_at_lem base ls n long six low high =
    let e : 17 + 5 * n ≡ length base + 5 * (n - 1) = omega arith in
    let h : n - 1 < length ls = omega arith in
    rw (e, drop-append-add base (level_figures ls) (5 * (n - 1)), at_number ls n low high) (five_at_lem ls (n - 1) h)

-- an accepted frame is accepted without levels
low_counts : (a b c : Bool) → (a && b && c) ≡ true → c ≡ true
low_counts true true c e = e
low_counts true false c e = absurd (not_so (sym e))
low_counts false b c e = absurd (not_so (sym e))

pub counts_low : (t : Tandem) (f : Frame) (counts : List ℕ) → refusal_at t f counts ≡ 0 → low_to 6 counts ≡ true
unfolding frame_refusal
counts_low t f counts e =
    let p = passed 4 (frame_checks t f.overhead f.flags f.sm f.pm counts) refl e in
    low_counts (leb f.sm 8) (leb f.pm 8) (low_to 6 counts) p.1.1.0

pub plain_accepts : (t : Tandem) (f : Frame) (counts : List ℕ) → refusal_at t f counts ≡ 0 → step_refusal t.base f.overhead f.flags f.sm f.pm ≡ 0
plain_accepts t f counts e = sym (refusal_same t f counts (counts_low t f counts e)) ∙ e

-- the supervisor after an accepted frame
abbrev pub after_frame : Tandem → Frame → List ℕ → Tandem
after_frame t f counts = record {
  base = framed t.base f;
  flags = f.flags;
  levels = framed_levels t.levels (path_ssf (stands_at t.base f)) (multi_at t.base f) f.overhead counts;
}

pub frame_accepted : (t : Tandem) (f : Frame) (counts : List ℕ) → refusal_at t f counts ≡ 0 → (framed_at t f counts).tandem ≡ after_frame t f counts
unfolding framed_of step_of report_of
frame_accepted t f counts e = rw (eq-eqb _ _ e, eq-eqb _ _ (plain_accepts t f counts e))

-- what it tells of line, section and path, and of the levels
pub standing_accepted : (t : Tandem) (f : Frame) (counts : List ℕ) → refusal_at t f counts ≡ 0 → (framed_at t f counts).report.standing ≡ stands_at t.base f
unfolding framed_of step_of report_of
standing_accepted t f counts e = rw (eq-eqb _ _ e, eq-eqb _ _ (plain_accepts t f counts e))

stands_accepted : (t : Tandem) (f : Frame) (counts : List ℕ) → refusal_at t f counts ≡ 0
    → (framed_at t f counts).stands ≡ shown_levels (after_frame t f counts).levels (path_ssf (stands_at t.base f))
unfolding framed_of step_of report_of
stands_accepted t f counts e = rw (eq-eqb _ _ e, eq-eqb _ _ (plain_accepts t f counts e))

-- the supervisor after an accepted mark
module _ (t : Tandem) (taken : (marked_of t).refusal ≡ 0) where
  seconds_low : ltb t.base.seconds 4294967295 ≡ true
  unfolding marked_of mark_of
  seconds_low = by (ltb t.base.seconds 4294967295) refl
    where
      by : (b : Bool) → ltb t.base.seconds 4294967295 ≡ b → ltb t.base.seconds 4294967295 ≡ true
      by true e = e
      by false e = let four : ◌≡◌ {A = ℕ} 4 0 = rw e at taken in absurd (omega arith)

  pub mark_accepted : (marked_of t).tandem ≡ record { base = next_second t.base; flags = t.flags; levels = marked_levels t.levels }
  unfolding marked_of mark_of
  mark_accepted = rw seconds_low

-- levels provisioned: in its own place, and in another
pub placed_same : (ls : List Level) (n : ℕ) (l : Level) → length ls ≡ 6 → 1 ≤ n → n ≤ 6 → level_at (placed_at ls n l) n ≡ l
placed_same ls n l six low high = rw (le-leb 1 n low, le-leb n 6 high) (get_or-set_same ls (n - 1) l blank_level (omega arith))

placed_other : (ls : List Level) (m n : ℕ) (l : Level) → (m ≡ n → ⊥) → 1 ≤ n → n ≤ 6 → level_at (placed_at ls m l) n ≡ level_at ls n
placed_other ls m n l ne low high =
    by_cond (λ (x : List Level). level_at x n ≡ level_at ls n) (leb 1 m)
    (λ one. by_cond (λ (x : List Level). level_at x n ≡ level_at ls n) (leb m 6) (λ _. apart (leb-true 1 m one)) (λ _. refl))
    (λ _. refl)
  where
    apart : 1 ≤ m → level_at (set ls (m - 1) l) n ≡ level_at ls n
    apart h =
        let e : n - 1 ≡ m - 1 → ⊥ = λ (z : n - 1 ≡ m - 1). ne (omega arith) in
        rw (le-leb 1 n low, le-leb n 6 high) (get_or-set_other ls (m - 1) (n - 1) l blank_level e)

-- a provisioning, whatever its refusal, leaves the others
pub given_other : (refusal : ℕ) (t : Tandem) (m n : ℕ) (r : Request) (names : List ℕ) → (m ≡ n → ⊥) → 1 ≤ n → n ≤ 6
    → level_at (given_by refusal t m r names).tandem.levels n ≡ level_at t.levels n
unfolding given_by
given_other refusal t m n r names ne low high =
    by_cond (λ (x : Given). level_at x.tandem.levels n ≡ level_at t.levels n) (eqb refusal 0)
    (λ _. placed_other t.levels m n (given_level (options_of r names)) ne low high)
    (λ _. refl)

module _ (t : Tandem) (n : ℕ) (six : length t.levels ≡ 6) (low : 1 ≤ n) (high : n ≤ 6) where
  -- level n after an accepted frame, by the one rule
  pub at_frame : (f : Frame) (counts : List ℕ) → refusal_at t f counts ≡ 0
      → level_at (framed_at t f counts).tandem.levels n
      ≡ stepped_level (level_at t.levels n) (path_ssf (stands_at t.base f)) (multi_at t.base f) (level_field f.overhead n) (count_at counts n)
  at_frame f counts e =
      ap (λ (u : Tandem). level_at u.levels n) (frame_accepted t f counts e)
      ∙ at_each (frame_rule (path_ssf (stands_at t.base f)) (multi_at t.base f) f.overhead counts) t.levels n six low high

  own_frame_lem : (f : Frame) (counts : List ℕ) → refusal_at t f counts ≡ 0 → (level_at t.levels n).given ≡ true
      → level_at (framed_at t f counts).tandem.levels n ≡ own_level t f counts n
  unfolding stepped_level
  own_frame_lem f counts e g = at_frame f counts e ∙ rw g

  own_stands : (f : Frame) (counts : List ℕ) → refusal_at t f counts ≡ 0 → (level_at t.levels n).given ≡ true
      → (level_report (framed_at t f counts).tandem n).stands ≡ (own_frame t f n (level_at t.levels n)).stands
  unfolding level_report level_shown ssf_now frame_of stands_after
  own_stands f counts e g =
      let ssf : Bool = path_ssf (stands_at t.base f) in
      let a = frame_accepted t f counts e in
      ap (λ (u : Tandem). level_shown (level_at u.levels n) (ssf_now u.base u.flags)) a
      ∙ ap (λ (l : Level). level_shown l ssf) (ap (λ (u : Tandem). level_at u.levels n) (sym a) ∙ own_frame_lem f counts e g)

  own_told : (f : Frame) (counts : List ℕ) → refusal_at t f counts ≡ 0
      → get_or (framed_at t f counts).stands (n - 1) nothing ≡ (level_report (framed_at t f counts).tandem n).stands
  unfolding level_report ssf_now frame_of stands_after
  own_told f counts e =
      let ssf : Bool = path_ssf (stands_at t.base f) in
      let after : List Level = (after_frame t f counts).levels in
      let h : n - 1 < length after = rw (each_length (frame_rule ssf (multi_at t.base f) f.overhead counts) 1 t.levels, six) (omega arith) in
      ap (λ (x : List LevelStands). get_or x (n - 1) nothing) (stands_accepted t f counts e)
      ∙ each_at (shown_rule ssf) 1 after (n - 1) blank_level nothing h
      ∙ ap (λ (l : Level). level_shown l ssf) (sym (at_number after n low high))
      ∙ ap (λ (u : Tandem). level_shown (level_at u.levels n) (ssf_now u.base u.flags)) (sym (frame_accepted t f counts e))

  -- level n after a mark, and its figures; a mark that is accepted is so without levels
  pub at_mark : (marked_of t).refusal ≡ 0 → level_at (marked_of t).tandem.levels n ≡ marked_level (level_at t.levels n)
  at_mark z = ap (λ (u : Tandem). level_at u.levels n) (mark_accepted t z) ∙ at_each mark_rule t.levels n six low high

  pub own_figures : (marked_of t).refusal ≡ 0 → group_at (marked_of t).figures n ≡ five_of (level_at t.levels n)
  unfolding marked_of mark_of
  own_figures z = rw (seconds_low t z) (group_at_lem (figures_of (t.base.seconds + 1) (closed_of t.base.second)) t.levels n refl six low high)

  own_given : (r : Request) (names : List ℕ) → give_refusal t n r names ≡ 0 → level_at (give_of t n r names).tandem.levels n ≡ given_level (options_of r names)
  unfolding given_by
  own_given r names e = rw (eq-eqb (give_refusal t n r names) 0 e) (placed_same t.levels n (given_level (options_of r names)) six low high)

pub one_by_one : EachOneByOne
one_by_one t n six low high = record {
  frame = own_frame_lem t n six low high;
  stands = own_stands t n six low high;
  told = own_told t n six low high;
  mark = at_mark t n six low high;
  figures = own_figures t n six low high;
  given = own_given t n six low high;
  other = λ m r names ne. given_other (give_refusal t m r names) t m n r names ne low high;
}
