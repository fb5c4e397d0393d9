-- Which calls are refused, which histories are accepted, and what is left by calls of which some are refused. Assumes nothing.
use Prim.Native.Nat.{ℕ}
use mathlib.Core.Path.{◌≡◌, refl, sym, ap, ◌∙◌, subst, subst⁻¹}
use mathlib.Core.Bool.{Bool, true, false, cond, ◌&&◌}
use mathlib.Core.List.{List, [], ◌∷◌, ◌++◌, map, reverse}
use native.Mathlib.Omega.{arith}
use lib.Dec.{leb, eqb, ltb}
use lib.ListN.{length}
use Rattle.answer.specs.Checks.{Check, check, first_of}
use borrow.Author.Tests.{eqb-true}
use Rattle.answer.proofs.Cond.{not_so}
use Rattle.settings.specs.declared.Request.{Request}
use Rattle.second.specs.Second.{closed_of}
use Rattle.supervisor.specs.Supervisor.{mark_of}
use Rattle.supervisor.specs.declared.Supervisor.{Supervisor}
use Rattle.history.specs.History.{Frame, event_of, Accepted, refusal_of as plain_refusal}
use Rattle.tandem.specs.Levels.{low_to}
use Rattle.tandem.specs.Tandem.{given_by, give_refusal, record_refusal, frame_refusal as refusal_of_frame, framed_of, marked_of}
use Rattle.tandem.specs.declared.Tandem.{Tandem}
use Rattle.watch.specs.Watch.{LevelCall, gives, records, frames, marks as closes, tandem_by, tandem_after, refusal_at, framed_at, refusal_of, AllTaken, events_among}
use Rattle.watch.proofs.Silent.{refusal_same, mark_refusal_lem}
use Rattle.watch.proofs.Alone.{counts_low, plain_accepts, frame_accepted, mark_accepted}
use Rattle.page.proofs.Seconds.{seconds_are, frames_is}
use Rattle.page.proofs.Page.{acceptance}
use Rattle.sheet.specs.Sheet.{LevelEvent, counted, closed, plainly}
use Rattle.sheet.specs.Sheet.{Low, taken_of, OfTaken, events_of, reached}
use Rattle.sheet.specs.Sheet.{EachRefusal, LevelAcceptance, called}
use Rattle.sheet.proofs.Sheet.{after_calls}

-- a refused call changes nothing
given_refused : (refusal : ℕ) (t : Tandem) (m : ℕ) (r : Request) (names : List ℕ) → eqb refusal 0 ≡ false → (given_by refusal t m r names).tandem ≡ t
unfolding given_by
given_refused refusal t m r names e = rw e

frame_refused : (t : Tandem) (f : Frame) (counts : List ℕ) → eqb (refusal_at t f counts) 0 ≡ false → (framed_at t f counts).tandem ≡ t
unfolding framed_of
frame_refused t f counts e = rw e

mark_refused_lem : (t : Tandem) → eqb (marked_of t).refusal 0 ≡ false → (marked_of t).tandem ≡ t
unfolding marked_of
mark_refused_lem t e = by (eqb (mark_of t.base).refusal 0) refl
  where
    by : (b : Bool) → eqb (mark_of t.base).refusal 0 ≡ b → (marked_of t).tandem ≡ t
    by true k = absurd (not_so (rw k at e))
    by false k = rw k

refused : (t : Tandem) (c : LevelCall) → eqb (refusal_of t c) 0 ≡ false → tandem_by t c ≡ t
unfolding tandem_by
refused t (gives m r names) e = given_refused (give_refusal t m r names) t m r names e
refused t (records m r names) e = given_refused (record_refusal t m r names) t m r names e
refused t (frames f counts) e = frame_refused t f counts e
refused t closes e = mark_refused_lem t e

one_call : (t : Tandem) (c : LevelCall) (cs : List LevelCall) → OfTaken (tandem_by t c) cs → OfTaken t cs → OfTaken t (c ∷ cs)
unfolding tandem_after taken_of
one_call t c cs after same = by (eqb (refusal_of t c) 0) refl
  where
    by : (b : Bool) → eqb (refusal_of t c) 0 ≡ b → OfTaken t (c ∷ cs)
    by true e = record { state = rw e after.state; all = rw e (eqb-true (refusal_of t c) 0 e, after.all) }
    by false e = record { state = rw e (ap (λ (u : Tandem). tandem_after u cs) (refused t c e) ∙ same.state); all = rw e same.all }

pub level_calls : (t : Tandem) (cs : List LevelCall) → OfTaken t cs
unfolding tandem_after taken_of
level_calls t [] = record { state = refl; all = tt }
level_calls t (c ∷ cs) = one_call t c cs (level_calls (tandem_by t c) cs) (level_calls t cs)

-- the frames and marks without their counts are those of line, section and path
pub plain_events : (cs : List LevelCall) → plainly (events_of cs) ≡ events_among cs
unfolding events_of events_among
plain_events [] = refl
plain_events (gives n r names ∷ cs) = plain_events cs
plain_events (records n r names ∷ cs) = plain_events cs
plain_events (frames f counts ∷ cs) = rw (plain_events cs)
plain_events (closes ∷ cs) = rw (plain_events cs)

pub level_refusals : EachRefusal
unfolding refusal_of_frame closed_of plain_refusal
level_refusals p v cs a =
    let i = after_calls p cs a 1 (omega arith) (omega arith) in
    let h : List LevelEvent = reverse (events_of cs) in
    record {
      framed = λ f counts.
          let three : List Check =
          check 1 (eqb (length f.overhead) 64) ∷ check 2 (leb f.flags 3) ∷ check 3 (leb f.sm 8 && leb f.pm 8 && low_to 6 counts) ∷ [] in
          ap (λ (m : ℕ). first_of (three ++ (check 4 (ltb m 400000) ∷ [])))
          (ap (λ (s : Supervisor). s.second.frames.0) i.base ∙ frames_is p v (plainly h) i.accepted);
      closed =
          mark_refusal_lem (reached p cs)
          ∙ ap (λ (m : ℕ). cond (ltb m 4294967295) 0 4) (ap (λ (s : Supervisor). s.seconds) i.base ∙ seconds_are p (plainly h));
    }

-- a history is accepted as without levels, where no count is above 8
abbrev base_of : Tandem → Supervisor
base_of t = t.base

taken_plain : (t : Tandem) (h : List LevelEvent) → AllTaken t (map called h) → Accepted t.base (plainly h) × Low h
unfolding tandem_by event_of plain_refusal
taken_plain t [] a = (tt, tt)
taken_plain t (counted f counts ∷ h) a =
    let b = taken_plain (tandem_by t (called (counted f counts))) h a.1 in
    let rest = subst (λ (s : Supervisor). Accepted s (plainly h)) (ap base_of (frame_accepted t f counts a.0)) b.0 in
    ((plain_accepts t f counts a.0, rest), (counts_low t f counts a.0, b.1))
taken_plain t (closed ∷ h) a =
    let b = taken_plain (tandem_by t (called closed)) h a.1 in
    ((sym (mark_refusal_lem t) ∙ a.0, subst (λ (s : Supervisor). Accepted s (plainly h)) (ap base_of (mark_accepted t a.0)) b.0), b.1)

plain_taken : (t : Tandem) (h : List LevelEvent) → Accepted t.base (plainly h) → Low h → AllTaken t (map called h)
unfolding tandem_by event_of plain_refusal
plain_taken t [] a l = tt
plain_taken t (counted f counts ∷ h) a l =
    let e : refusal_at t f counts ≡ 0 = refusal_same t f counts l.0 ∙ a.0 in
    (e, plain_taken (tandem_by t (called (counted f counts))) h (subst⁻¹ (λ (s : Supervisor). Accepted s (plainly h)) (ap base_of (frame_accepted t f counts e)) a.1) l.1)
plain_taken t (closed ∷ h) a l =
    let e : (marked_of t).refusal ≡ 0 = mark_refusal_lem t ∙ a.0 in
    (e, plain_taken (tandem_by t (called closed)) h (subst⁻¹ (λ (s : Supervisor). Accepted s (plainly h)) (ap base_of (mark_accepted t e)) a.1) l)

pub level_acceptance : LevelAcceptance
level_acceptance p v t fresh h = (
  λ a.
      let b = taken_plain t h a in
      ((acceptance p v (plainly h)).0 (subst (λ (s : Supervisor). Accepted s (plainly h)) fresh b.0), b.1),
  λ b. plain_taken t h (subst⁻¹ (λ (s : Supervisor). Accepted s (plainly h)) fresh ((acceptance p v (plainly h)).1 b.0)) b.1,
)
