-- Demand 3 for the reader: all that is told of a trace, in its order, by the trace's own records. Assumes nothing.
use Rattle.std.specs.Prelude.{ℕ, ◌+◌, ◌≤◌, ◌≡◌, Bool, true, false, cond, List, [], ◌∷◌, ◌++◌, map, eqb, get_or, take, drop}
use Rattle.causes.specs.Causes.{nothing_stands}
use Rattle.history.specs.History.{Frame as Sent, Event, frame, mark, stands_at, Accepted}
use Rattle.history.specs.Ledger.{Demand3, marks as marks_among}
use Rattle.supervisor.specs.Supervisor.{fresh_of}
use Rattle.settings.specs.declared.Settings.{Settings}
use Rattle.tandem.specs.Tandem.{fresh_tandem}
use Rattle.watch.specs.Watch.{LevelCall, gives, records, frames, marks, framed_at, AllTaken, events_among}
use Rattle.late.specs.Late.{fresh_late, late_marked}
use Rattle.reports.specs.Reports.{late_by, marks_in, second_at, up_to, LineDemand3, SumBounds}
use Rattle.record.specs.declared.Record.{Record}
use Rattle.record.specs.declared.Record.TheVariants.{Frame, Mark, Provisioning, Level, LevelFrame, Refused}
use Rattle.trace.specs.declared.State.{State}
use Rattle.trace.specs.Scan.{Taken}
use Rattle.record.specs.Record.{kind_of, record_of, records_of, body_of, frames_in, level_in}
use Rattle.trace.specs.Scan.{start_of, taken_of, no_counts, counts_in}
use Rattle.stream.specs.Stream.{Note, second, change, listed_in, last_listed, pending_listed, Scan, scan_of}

-- a frame's own bytes and counts, by its body
abbrev pub sent_in : List ℕ → Sent
sent_in body = record { overhead = take 64 body; flags = get_or body 64 0; sm = get_or body 65 0; pm = get_or body 66 0 }

-- The call that a record is, with what its body has: a frame with six counts ("with kind 1 its violation count is 0"), a mark, or the provisioning of a
-- level. The provisioning of line, section and path comes before them all.
abbrev pub call_in : Record → List ℕ → List LevelCall
call_in Frame body = frames (sent_in body) no_counts ∷ []
call_in Mark body = marks ∷ []
call_in Provisioning body = []
call_in Level body = records (get_or body 0 0) (level_in body) (take 32 (drop 8 body)) ∷ []
call_in LevelFrame body = frames (sent_in body) (counts_in body) ∷ []
call_in (Refused n) body = []

-- the calls of records up to the first that is refused
unfoldable pub calls_over : List (List ℕ) → State → List LevelCall
calls_over [] st = []
calls_over (ys ∷ rs) st =
    let r : Record = record_of ys in
    let t : Taken = taken_of st ys in
    cond (eqb t.refusal 0) (call_in r (body_of r ys) ++ calls_over rs t.state) []

-- the accepted calls of a trace
abbrev pub calls_of : List ℕ → List LevelCall
calls_of xs = calls_over (records_of xs) start_of

-- the accepted frames and marks of a trace
abbrev pub events_of : List ℕ → List Event
events_of xs = events_among (calls_of xs)

-- "a trace uses kind 1 or kind 5 and not both": the kind of its frames is that of the first
unfoldable pub kind_over : List (List ℕ) → ℕ
kind_over [] = 0
kind_over (ys ∷ rs) = cond (eqb (frames_in (record_of ys)) 1) (kind_of (record_of ys)) (kind_over rs)

abbrev pub kind_in : List ℕ → ℕ
kind_in xs = kind_over (records_of xs)

-- the settings of its provisioning, which is its first record
abbrev pub settings_in : List ℕ → Settings
settings_in xs = (taken_of start_of xs).state.sup.tandem.base.settings

-- how many frames are among events
abbrev pub frames_among : List Event → ℕ
frames_among [] = 0
frames_among (frame f ∷ es) = 1 + frames_among es
frames_among (mark ∷ es) = frames_among es

-- the state after the provisioning
abbrev pub provisioned : Settings → State
provisioned p =
    record {
      begun = true;
      kind = 0;
      sup = fresh_late (fresh_tandem (fresh_of p));
      last = start_of.last;
      standing = nothing_stands;
      levels = start_of.levels;
    }

-- The state after each call that is accepted, k being the kind of the trace's frames: the supervisor, with its pending second, is the one handed back; a frame
-- leaves what stands after it of line, section and path and of the levels, a mark its figures.
abbrev pub after_call : ℕ → State → LevelCall → State
after_call k st (gives n r names) =
    record { begun = true; kind = st.kind; sup = late_by st.sup (gives n r names); last = st.last; standing = st.standing; levels = st.levels }
after_call k st (records n r names) =
    record { begun = true; kind = st.kind; sup = late_by st.sup (records n r names); last = st.last; standing = st.standing; levels = st.levels }
after_call k st (frames f counts) =
    record {
      begun = true;
      kind = k;
      sup = late_by st.sup (frames f counts);
      last = st.last;
      standing = stands_at st.sup.tandem.base f;
      levels = (framed_at st.sup.tandem f counts).stands;
    }
after_call k st marks =
    record { begun = true; kind = st.kind; sup = late_by st.sup marks; last = (late_marked st.sup).figures; standing = st.standing; levels = st.levels }

-- What a call tells: a mark that reports a second the figures of its line ("The first mark reports nothing"); any other, where every record is told, the number
-- of frames accepted with it, and the states before and after it.
abbrev pub note_of : Bool → ℕ → State → State → LevelCall → List Note
note_of tell n was is (gives m r names) = cond tell (change n was is ∷ []) []
note_of tell n was is (records m r names) = cond tell (change n was is ∷ []) []
note_of tell n was is (frames f counts) = cond tell (change n was is ∷ []) []
note_of tell n was is marks = cond (late_marked was.sup).told (second (last_listed is) ∷ []) (cond tell (change n was is ∷ []) [])

-- what calls tell from a state on, n frames being accepted before them
unfoldable pub told_by : Bool → ℕ → ℕ → State → List LevelCall → List Note
told_by tell k n st [] = []
told_by tell k n st (c ∷ cs) =
    let m : ℕ = n + frames_among (events_among (c ∷ [])) in
    note_of tell m st (after_call k st c) c ++ told_by tell k m (after_call k st c) cs

-- what is told of the provisioning, where it is accepted and every record is told
abbrev pub told_first : Bool → List ℕ → List Note
told_first tell xs = cond (eqb (taken_of start_of xs).refusal 0) (cond tell (change 0 start_of (provisioned (settings_in xs)) ∷ []) []) []

-- the figures of the seconds among what was told, in their order
abbrev pub figures_told : List Note → List (List ℕ)
figures_told [] = []
figures_told (second f ∷ ns) = f ∷ figures_told ns
figures_told (change n b a ∷ ns) = figures_told ns

-- The figures of all lines S of a scan, in their order: those of the marks, and at the end "the pending second, if there is one" (document 02, K3).
abbrev pub lines_in : Scan → List (List ℕ)
lines_in c = figures_told c.told ++ pending_listed c.state

-- The same by the calls alone: seconds 1 to as many as there are marks, each with the discards of its own second and of the one behind it where that is closed.
abbrev pub seconds_of : Settings → List LevelCall → List (List ℕ)
seconds_of p cs = map (second_at p cs) (up_to (marks_in cs))

-- Demand 3 for the reader, of every trace: its calls up to the first record refused are accepted, and so are their frames and marks by line, section and
-- path alone; all that its scan tells, in its order, is what they tell; each second that a mark closes has its line, once and in order, with the figures that the
-- calls alone say, of line, section and path and of the provisioned levels; each line is as demand 3 says, its sums within their
-- bounds (document 02, K7), and each mark closes a second as demand 3 says.
pub record ReaderDemand3 (tell : Bool) (xs : List ℕ) : Type 0 where
  pub calls : AllTaken (fresh_tandem (fresh_of (settings_in xs))) (calls_of xs)
  pub accepted : Accepted (fresh_of (settings_in xs)) (events_of xs)
  pub told : (scan_of tell xs).told ≡ told_first tell xs ++ told_by tell (kind_in xs) 0 (provisioned (settings_in xs)) (calls_of xs)
  pub figures : lines_in (scan_of tell xs) ≡ map (listed_in (scan_of tell xs).state) (seconds_of (settings_in xs) (calls_of xs))
  pub lines : (i : ℕ) → 1 ≤ i → i ≤ marks_in (calls_of xs) → LineDemand3 (second_at (settings_in xs) (calls_of xs) i)
  pub bounds : (i : ℕ) → 1 ≤ i → i ≤ marks_in (calls_of xs) → SumBounds (second_at (settings_in xs) (calls_of xs) i)
  pub demand : (earlier later : List Event) → events_of xs ≡ earlier ++ (mark ∷ later) → Demand3 (settings_in xs) earlier

-- "E: marks and frames accepted": a scan counts the marks and the frames accepted.
pub record ReaderCounts (tell : Bool) (xs : List ℕ) : Type 0 where
  pub marks : (scan_of tell xs).state.sup.tandem.base.seconds ≡ marks_among (events_of xs)
  pub frames : (scan_of tell xs).frames ≡ frames_among (events_of xs)

-- of what was told, the seconds
abbrev pub seconds_only : List Note → List Note
seconds_only [] = []
seconds_only (second f ∷ ns) = second f ∷ seconds_only ns
seconds_only (change n b a ∷ ns) = seconds_only ns

-- a scan that told its seconds alone
abbrev pub quietly : Scan → Scan
quietly c = record { told = seconds_only c.told; state = c.state; at = c.at; frames = c.frames; refusal = c.refusal; rest = c.rest }

-- Telling every record changes nothing else: the seconds, the state, the offset, the frames and the refusal are as they are without.
abbrev pub SameSeconds : List ℕ → Type 0
SameSeconds xs = quietly (scan_of true xs) ≡ scan_of false xs
