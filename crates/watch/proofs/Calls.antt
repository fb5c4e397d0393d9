-- Accepted calls: what they are to line, section and path. Assumes nothing.
use mathlib.Core.Path.{◌≡◌, refl, sym, ap, ◌∙◌, subst}
use mathlib.Core.List.{List, [], ◌∷◌, ◌++◌}
use Rattle.supervisor.specs.declared.Supervisor.{Supervisor}
use Rattle.history.specs.History.{frame, mark, event_of, after, Accepted, refusal_of as plain_refusal}
use Rattle.tandem.specs.declared.Tandem.{Tandem}
use Rattle.watch.specs.Watch.{LevelCall, gives, records, frames, marks, tandem_by, tandem_after, AllTaken, events_among}
use Rattle.watch.proofs.Silent.{given_base, mark_refusal_lem}
use Rattle.watch.proofs.Alone.{plain_accepts, frame_accepted, mark_accepted}

-- the events of calls are those of the first, then those of the rest
pub events_first : (c : LevelCall) (cs : List LevelCall) → events_among (c ∷ cs) ≡ events_among (c ∷ []) ++ events_among cs
unfolding events_among
events_first (gives n r names) cs = refl
events_first (records n r names) cs = refl
events_first (frames f counts) cs = refl
events_first marks cs = refl

-- line, section and path take the frames and marks among accepted calls, and no other
pub record Plain (t : Tandem) (cs : List LevelCall) : Type 0 where
  pub accepted : Accepted t.base (events_among cs)
  pub base : (tandem_after t cs).base ≡ after t.base (events_among cs)

-- those that follow a call, s being what it leaves of line, section and path
plain_next : (s : Supervisor) (u : Tandem) (cs : List LevelCall) → u.base ≡ s → Plain u cs
    → Accepted s (events_among cs) × ((tandem_after u cs).base ≡ after s (events_among cs))
plain_next s u cs e i = (
  subst (λ (x : Supervisor). Accepted x (events_among cs)) e i.accepted,
  i.base ∙ ap (λ (x : Supervisor). after x (events_among cs)) e,
)

pub plain_of : (t : Tandem) (cs : List LevelCall) → AllTaken t cs → Plain t cs
unfolding tandem_after tandem_by events_among after event_of plain_refusal
plain_of t [] a = record { accepted = tt; base = refl }
plain_of t (gives n r names ∷ cs) a =
    let i = plain_next t.base _ cs (given_base _ t n r names) (plain_of (tandem_by t (gives n r names)) cs a.1) in
    record { accepted = i.0; base = i.1 }
plain_of t (records n r names ∷ cs) a =
    let i = plain_next t.base _ cs (given_base _ t n r names) (plain_of (tandem_by t (records n r names)) cs a.1) in
    record { accepted = i.0; base = i.1 }
plain_of t (frames f counts ∷ cs) a =
    let e = ap (λ (u : Tandem). u.base) (frame_accepted t f counts a.0) in
    let i = plain_next (event_of t.base (frame f)) _ cs e (plain_of (tandem_by t (frames f counts)) cs a.1) in
    record { accepted = (plain_accepts t f counts a.0, i.0); base = i.1 }
plain_of t (marks ∷ cs) a =
    let e = ap (λ (u : Tandem). u.base) (mark_accepted t a.0) in
    let i = plain_next (event_of t.base mark) _ cs e (plain_of (tandem_by t marks) cs a.1) in
    record { accepted = (sym (mark_refusal_lem t) ∙ a.0, i.0); base = i.1 }
