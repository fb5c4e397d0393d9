-- What is told as text: the line of a second that was reported, of a record with which anything changed, and the last lines. Assumes nothing.
use Rattle.std.specs.Prelude.{ℕ, ◌+◌, ◌≡◌, Bool, cond, List, [], ◌∷◌, ◌++◌, eqb, get_or}
use Rattle.bins.specs.Bins.{bins_with, opened_of, closed_lines, rest_lines}
use Rattle.bins.specs.declared.Bins.{Bins}
use Rattle.listing.specs.Text.{second_line, refusal_line, end_line}
use Rattle.causes.specs.Causes.{report_of}
use Rattle.change.specs.declared.Shown.{Shown}
use Rattle.change.specs.Change.{shown_of, change_line}
use Rattle.trace.specs.declared.State.{State}
use Rattle.watch.specs.Watch as watch
use Rattle.late.specs.Late.{pending_of}
use Rattle.stream.specs.Stream.{Note, second, change, last_listed, pending_listed}
use Rattle.stream.specs.Figures.{after_call}

-- what a state shows: the report of what stands (its counts, which are the frame's own, left at 0), what stands of the levels, and the accepted traces
abbrev pub shown_in : State → Shown
shown_in st = shown_of st.sup.tandem (report_of st.standing 0 0) st.levels

-- The line of what is told: of a reported second its figures; of a record what changed with it, under the open second and the frame's number there
-- and in the trace.
unfoldable pub line_for : Note → List ℕ
line_for (second figures) = second_line figures
line_for (change total was is) = change_line (is.sup.tandem.base.seconds + 1) is.sup.tandem.base.second.frames.0 total (shown_in was) (shown_in is)

-- the line of a record that was told, of what was shown before it and the state after it
abbrev pub told_for : ℕ → Shown → State → List ℕ
told_for total before is = change_line (is.sup.tandem.base.seconds + 1) is.sup.tandem.base.second.frames.0 total before (shown_in is)

-- Nothing that is shown changes with a mark: one that reports nothing has no line.
abbrev pub MarkUntold : Type 0
MarkUntold = (total : ℕ) (st : State) → line_for (change total st (after_call 0 st watch.marks)) ≡ []

-- the lines of seconds, by their figures
unfoldable pub second_lines : List (List ℕ) → List ℕ
second_lines [] = []
second_lines (v ∷ vs) = second_line v ++ second_lines vs

-- "at the end of the scan the pending second, if there is one, is printed before R or E" (document 02, K3)
unfoldable pub pending_line : State → List ℕ
pending_line st = second_lines (pending_listed st)

-- "A refusal prints `R`, its number and the record's byte offset, then E." "E: marks and frames accepted."
unfoldable pub end_lines : ℕ → ℕ → ℕ → ℕ → List ℕ
end_lines refusal offset marks frames =
    cond (eqb refusal 0) (end_line marks frames) (refusal_line refusal offset ++ end_line marks frames)

-- For the network office (document 02, K6) a second is told by what it closes, its quarter-hour and its day: their lines, b being open before it; and what is open after it.
unfoldable pub line_by : Bool → Bins → Note → List ℕ
line_by office b (second figures) = cond office (closed_lines (bins_with b figures) (get_or figures 0 0)) (line_for (second figures))
line_by office b (change total was is) = line_for (change total was is)

unfoldable pub open_after : Bins → Note → Bins
open_after b (second figures) = opened_of (bins_with b figures) (get_or figures 0 0)
open_after b (change total was is) = b

-- the lines of all that is told, and what is open after it
unfoldable pub lines_of : Bool → Bins → List Note → List ℕ
lines_of office b [] = []
lines_of office b (n ∷ ns) = line_by office b n ++ lines_of office (open_after b n) ns

unfoldable pub open_over : Bins → List Note → Bins
open_over b [] = b
open_over b (n ∷ ns) = open_over (open_after b n) ns

-- the same of the second that was reported last, by its fifty-two figures: a line has the first twenty-two of them, and a summary takes no other
abbrev pub closed_text : Bins → State → List ℕ
closed_text b st = closed_lines (bins_with b st.last) (get_or st.last 0 0)

abbrev pub reported_text : Bool → Bins → State → List ℕ
reported_text office b st = cond office (closed_text b st) (line_for (second (last_listed st)))

abbrev pub opened_by : Bins → State → Bins
opened_by b st = opened_of (bins_with b st.last) (get_or st.last 0 0)

-- at the end: the pending second's line; for the office the lines of what it closes, if there is one, and of what is open then
abbrev pub last_closed : Bins → List ℕ → List ℕ
last_closed b f = closed_lines (bins_with b f) (get_or f 0 0) ++ rest_lines (opened_of (bins_with b f) (get_or f 0 0))

abbrev pub office_end : Bins → State → List ℕ
office_end b st = cond (pending_of st.sup).told (last_closed b (pending_of st.sup).figures) (rest_lines b)

abbrev pub end_text : Bool → Bins → State → List ℕ
end_text office b st = cond office (office_end b st) (pending_line st)

-- the last lines of a scan that stands in a state: its marks are the seconds closed
unfoldable pub last_lines : Bool → Bins → State → ℕ → ℕ → ℕ → List ℕ
last_lines office b st refusal offset frames = end_text office b st ++ end_lines refusal offset st.sup.tandem.base.seconds frames

-- the last lines, where the output ends with them
abbrev pub ending_of : Bool → Bool → Bins → State → ℕ → ℕ → ℕ → List ℕ
ending_of done office b st refusal offset frames = cond done (last_lines office b st refusal offset frames) []

-- the room that they are given: the lines of two seconds, and two lines of 44 bytes at most
abbrev pub last_room : ℕ
last_room = 2276
