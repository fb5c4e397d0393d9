-- A record taken, and the scan of a buffer's records (document 01, "Trace records and the listing"; kinds 4 and 5 document 02, K1; the pending
-- second K3). Assumes nothing.
use Rattle.std.specs.Prelude.{ℕ, ◌+◌, Bool, true, false, cond, ◌||◌, Result, Ok, Err, List, [], ◌∷◌, get_or, drop, take, replicate, eqb}
use Rattle.answer.specs.declared.Refusal.{Refusal}
use Rattle.answer.specs.Refusal.{number_of}
use Rattle.causes.specs.Causes.{nothing_stands}
use Rattle.supervisor.specs.Supervisor.{Provisioned, blank_supervisor, provision_of}
use Rattle.tandem.specs.Tandem as tandem
use Rattle.tandem.specs.Tandem.{Given, TandemStepped}
use Rattle.tandem.specs.declared.Tandem.{Tandem}
use Rattle.late.specs.Late.{LateMarked, fresh_late, late_marked}
use Rattle.late.specs.declared.Late.{Late}
use Rattle.record.specs.declared.Record.{Record}
use Rattle.record.specs.declared.Record.TheVariants.{Frame, Mark, Provisioning, Level, LevelFrame, Refused}
use Rattle.record.specs.Record.{kind_of, record_of, records_of, size_of, body_of, frames_in, section_in, path_in, level_in}
use Rattle.trace.specs.declared.State.{State}
use Rattle.trace.specs.declared.Run as code
use Rattle.trace.specs.declared.Stop.{Stop}
use Rattle.trace.specs.declared.Stop.TheVariants as stop

-- one record taken: its refusal's number, 0 where it was accepted; whether a second was reported with it; the state after it
pub record Taken : Type 0 where
  pub refusal : ℕ
  pub told : Bool
  pub state : State

-- where and why a run stopped, the frames accepted in it, and the state there
pub record Run : Type 0 where
  pub at : ℕ
  pub frames : ℕ
  pub stop : Stop
  pub state : State

-- both as the code has them, with the state that it leaves
abbrev pub taken_as : Result Bool Refusal → State → Taken
taken_as (Ok told) st = record { refusal = 0; told = told; state = st }
taken_as (Err e) st = record { refusal = number_of e; told = false; state = st }

abbrev pub ran : code.Run → State → Run
ran r st = record { at = r.at; frames = r.frames; stop = r.stop; state = st }

-- what a scan starts with: no provisioning met, no frame accepted, no second pending, and nothing stands
abbrev pub start_of : State
start_of =
    record {
      begun = false;
      kind = 0;
      sup = fresh_late (tandem.fresh_tandem blank_supervisor);
      last = replicate 52 0;
      standing = nothing_stands;
      levels = replicate 6 tandem.nothing;
    }

-- a record refused: nothing is changed
abbrev pub refused_of : State → ℕ → Taken
refused_of st n = record { refusal = n; told = false; state = st }

-- a record answered by a call: where the call refuses, it is refused; else the state after it is the next
unfoldable pub answered_of : State → ℕ → Bool → State → Taken
answered_of st refusal told next = cond (eqb refusal 0) (record { refusal = 0; told = told; state = next }) (refused_of st refusal)

-- "Kind 1, length 69: overhead, flags, SM count, PM count"; six counts of levels follow by their kind
abbrev pub step_in : State → List ℕ → List ℕ → TandemStepped
step_in st body counts = tandem.framed_of st.sup.tandem (take 64 body) (get_or body 64 0) (get_or body 65 0) (get_or body 66 0) counts

-- "with kind 1 its violation count is 0"
abbrev pub no_counts : List ℕ
no_counts = replicate 6 0

-- "Frames with six more counts at the end, levels 1 to 6, are kind 5, length 75"
abbrev pub counts_in : List ℕ → List ℕ
counts_in body = get_or body 67 0 ∷ get_or body 68 0 ∷ get_or body 69 0 ∷ get_or body 70 0 ∷ get_or body 71 0 ∷ get_or body 72 0 ∷ []

-- "Kind 3, length 81": what its body asks for, and the names
abbrev pub provision_in : List ℕ → Provisioned
provision_in body = provision_of (get_or body 0 0) (section_in body) (path_in body) (take 32 (drop 15 body)) (take 32 (drop 47 body))

-- "kind 4, length 42, .. level, DEGThr (4), DEGM, mode, TIMActDis, names (32)"
abbrev pub give_in : State → List ℕ → Given
give_in st body = tandem.recorded_of st.sup.tandem (get_or body 0 0) (level_in body) (take 32 (drop 8 body))

-- "a trace uses kind 1 or kind 5 and not both": a frame of a kind may follow where none was accepted, or one of its own kind
abbrev pub alike : State → ℕ → Bool
alike st kind = eqb st.kind 0 || eqb st.kind kind

-- a supervisor with levels in another's place, beside the same pending second
abbrev pub beside : Late → Tandem → Late
beside s t = record { tandem = t; pending = s.pending }

-- the state after a frame of a kind, after a mark, and with another supervisor: a frame leaves what stands after it, a mark its figures
abbrev pub after_frame : State → ℕ → TandemStepped → State
after_frame st kind a = record { begun = true; kind = kind; sup = beside st.sup a.tandem; last = st.last; standing = a.report.standing; levels = a.stands }

abbrev pub after_mark : State → LateMarked → State
after_mark st a = record { begun = true; kind = st.kind; sup = a.late; last = a.figures; standing = st.standing; levels = st.levels }

abbrev pub after_giving : State → Late → State
after_giving st s = record { begun = true; kind = st.kind; sup = s; last = st.last; standing = st.standing; levels = st.levels }

-- a frame, by its kind and the six counts, where its place is right: the refusals are the call's own
unfoldable pub stepped_of : State → ℕ → List ℕ → List ℕ → Taken
stepped_of st kind body counts = let a : TandemStepped = step_in st body counts in answered_of st a.refusal false (after_frame st kind a)

-- A frame, a mark, a provisioning and a level's taken. "then 16, then the rest": 16 is "first record not a provisioning (kind 3), or a later one
-- is"; 19 is "frame kinds mixed", and "in a trace 18 and 19 follow 16"; the rest are the call's own.
unfoldable pub framed_of : State → ℕ → List ℕ → List ℕ → Taken
framed_of st kind body counts = cond st.begun (cond (alike st kind) (stepped_of st kind body counts) (refused_of st 19)) (refused_of st 16)

unfoldable pub marked_of : State → Taken
marked_of st =
    let a : LateMarked = late_marked st.sup in
    cond st.begun (answered_of st a.refusal a.told (after_mark st a)) (refused_of st 16)

unfoldable pub provisioned_of : State → List ℕ → Taken
provisioned_of st body =
    let a : Provisioned = provision_in body in
    cond st.begun (refused_of st 16) (answered_of st a.refusal false (after_giving st (fresh_late (tandem.fresh_tandem a.supervisor))))

-- "16 also for kind 4 after a frame or mark", and 18, are the call's own, ahead of its rest
unfoldable pub given_of : State → List ℕ → Taken
given_of st body =
    let a : Given = give_in st body in
    cond st.begun (answered_of st a.refusal false (after_giving st (beside st.sup a.tandem))) (refused_of st 16)

-- a record with its body, taken in a state
abbrev pub applied_of : State → Record → List ℕ → Taken
applied_of st Frame body = framed_of st (kind_of Frame) body no_counts
applied_of st Mark body = marked_of st
applied_of st Provisioning body = provisioned_of st body
applied_of st Level body = given_of st body
applied_of st LevelFrame body = framed_of st (kind_of LevelFrame) body (counts_in body)
applied_of st (Refused n) body = refused_of st n

-- the record that a list begins with, taken in a state
unfoldable pub taken_of : State → List ℕ → Taken
taken_of st ys = applied_of st (record_of ys) (body_of (record_of ys) ys)

-- The run over records, from the place `at` on, n frames before it. It ends at the first record refused, at one with which a second is
-- reported, at each that is told, and at the end.
unfoldable pub run_over : Bool → List (List ℕ) → ℕ → ℕ → State → Run
run_over tell [] at n st = record { at = at; frames = n; stop = stop.More; state = st }
run_over tell (ys ∷ rs) at n st =
    let r : Record = record_of ys in
    let t : Taken = taken_of st ys in
    cond (eqb t.refusal 0)
    (cond t.told
    (record { at = at + size_of r; frames = n + frames_in r; stop = stop.Reported; state = t.state })
    (cond tell
    (record { at = at + size_of r; frames = n + frames_in r; stop = stop.Told; state = t.state })
    (run_over tell rs (at + size_of r) (n + frames_in r) t.state)))
    (record { at = at; frames = n; stop = stop.Refused t.refusal at; state = st })

-- the run over a list from a position on
abbrev pub run_of : Bool → List ℕ → ℕ → ℕ → State → Run
run_of tell s at n st = run_over tell (records_of (drop at s)) at n st
