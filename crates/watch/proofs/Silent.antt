-- With levels line, section and path answer as without. Assumes nothing.
use Prim.Native.Nat.{ℕ}
use mathlib.Core.Path.{◌≡◌, refl, ap, ◌∙◌}
use mathlib.Core.Bool.{Bool, true, false, cond, ◌&&◌}
use mathlib.Core.List.{List, [], ◌∷◌}
use lib.Dec.{leb, eqb, ltb}
use lib.ListN.{length}
use Rattle.answer.proofs.Cond.{by_cond, cond_under}
use Rattle.supervisor.specs.Supervisor.{Marked, step_refusal, step_of, mark_of}
use Rattle.supervisor.specs.declared.Supervisor.{Supervisor}
use Rattle.settings.specs.declared.Request.{Request}
use Rattle.history.specs.History.{Frame, does, frame, mark}
use Rattle.history.specs.History as base
use Rattle.tandem.specs.Levels.{low_to}
use Rattle.tandem.specs.Tandem.{Given, given_by, frame_refusal, framed_of, marked_of}
use Rattle.tandem.specs.declared.Tandem.{Tandem}
use Rattle.watch.specs.Watch.{LevelCall, gives, records, frames, marks, refusal_at, framed_at, tandem_by, tandem_after, without, SameFrame, SameMark, LevelsSilent}

and_true : (a b : Bool) → (a && b && true) ≡ (a && b)
and_true true true = refl
and_true true false = refl
and_true false b = refl

and-false : (a b : Bool) → (a && b && false) ≡ false
and-false true true = refl
and-false true false = refl
and-false false b = refl

-- the refusal of a frame in the supervisor without levels
abbrev plain_refusal : Tandem → Frame → ℕ
plain_refusal t f = step_refusal t.base f.overhead f.flags f.sm f.pm

-- counts of levels up to 8 refuse nothing
pub refusal_same : (t : Tandem) (f : Frame) (counts : List ℕ) → low_to 6 counts ≡ true → refusal_at t f counts ≡ plain_refusal t f
unfolding frame_refusal step_refusal
refusal_same t f counts low = rw (low, and_true (leb f.sm 8) (leb f.pm 8))

-- and others refuse the frame
refusal_high : (t : Tandem) (f : Frame) (counts : List ℕ) → low_to 6 counts ≡ false → eqb (refusal_at t f counts) 0 ≡ false
unfolding frame_refusal
refusal_high t f counts high =
    by_cond (λ (x : ℕ). eqb x 0 ≡ false) (eqb (length f.overhead) 64)
    (λ _. by_cond (λ (x : ℕ). eqb x 0 ≡ false) (leb f.flags 3) (λ _. rw (high, and-false (leb f.sm 8) (leb f.pm 8))) (λ _. refl))
    (λ _. refl)

silent_frame : (t : Tandem) (f : Frame) (counts : List ℕ) → low_to 6 counts ≡ true
    → SameFrame (framed_at t f counts) (step_of t.base f.overhead f.flags f.sm f.pm)
unfolding framed_of step_of
silent_frame t f counts low = by (eqb (plain_refusal t f) 0) refl
  where
    same : refusal_at t f counts ≡ plain_refusal t f
    same = refusal_same t f counts low

    by : (b : Bool) → eqb (plain_refusal t f) 0 ≡ b → SameFrame (framed_at t f counts) (step_of t.base f.overhead f.flags f.sm f.pm)
    by true e = record { refusal = rw (same, e); report = rw (same, e); base = rw (same, e) }
    by false e = record { refusal = rw (same, e); report = rw (same, e); base = rw (same, e) }

silent_mark : (t : Tandem) → SameMark (marked_of t) (mark_of t.base)
unfolding marked_of mark_of
silent_mark t = by (ltb t.base.seconds 4294967295) refl
  where
    by : (b : Bool) → ltb t.base.seconds 4294967295 ≡ b → SameMark (marked_of t) (mark_of t.base)
    by true e = record { refusal = rw e; figures = rw e; base = rw e }
    by false e = record { refusal = rw e; figures = rw e; base = rw e }

silent_high : (t : Tandem) (f : Frame) (counts : List ℕ) → low_to 6 counts ≡ false → (framed_at t f counts).tandem ≡ t
unfolding framed_of
silent_high t f counts high = rw (refusal_high t f counts high)

-- the provisioning of a level leaves line, section and path
pub given_base : (refusal : ℕ) (t : Tandem) (n : ℕ) (r : Request) (names : List ℕ) → (given_by refusal t n r names).tandem.base ≡ t.base
unfolding given_by
given_base refusal t n r names = by_cond (λ (x : Given). x.tandem.base ≡ t.base) (eqb refusal 0) (λ _. refl) (λ _. refl)

silent_calls : (t : Tandem) (cs : List LevelCall) → (tandem_after t cs).base ≡ base.handed t.base (without cs)
unfolding tandem_after tandem_by without base.handed base.handed_back
silent_calls t [] = refl
silent_calls t (gives n r names ∷ cs) =
    silent_calls (tandem_by t (gives n r names)) cs ∙ ap (λ (s : Supervisor). base.handed s (without cs)) (given_base _ t n r names)
silent_calls t (records n r names ∷ cs) =
    silent_calls (tandem_by t (records n r names)) cs ∙ ap (λ (s : Supervisor). base.handed s (without cs)) (given_base _ t n r names)
silent_calls t (frames f counts ∷ cs) = silent_calls (framed_at t f counts).tandem cs ∙ by (low_to 6 counts) refl
  where
    by : (b : Bool) → low_to 6 counts ≡ b
        → base.handed (framed_at t f counts).tandem.base (without cs) ≡ base.handed t.base (cond b (does (frame f) ∷ without cs) (without cs))
    by true low = ap (λ (s : Supervisor). base.handed s (without cs)) (silent_frame t f counts low).base
    by false high = ap (λ (u : Tandem). base.handed u.base (without cs)) (silent_high t f counts high)
silent_calls t (marks ∷ cs) = silent_calls (marked_of t).tandem cs ∙ ap (λ (s : Supervisor). base.handed s (without cs)) (silent_mark t).base

pub levels_silent : (t : Tandem) → LevelsSilent t
levels_silent t = record { frame = silent_frame t; mark = silent_mark t; high = silent_high t; calls = silent_calls t }

-- a mark is refused by the seconds closed
pub mark_refusal_lem : (t : Tandem) → (marked_of t).refusal ≡ base.refusal_of t.base mark
unfolding mark_of base.refusal_of
mark_refusal_lem t = (silent_mark t).refusal ∙ cond_under (λ (m : Marked). m.refusal) (ltb t.base.seconds 4294967295) _ _
