-- Every call from C by the page and by the sheet (crates page and sheet): no state between the calls and what they answer. Assumes nothing.
use Rattle.std.specs.Prelude.{◌≡◌, true, cond, List, [], ◌∷◌, ◌++◌, reverse, ℕ, ◌≤◌, eqb, length, replicate}
use Rattle.words.specs.Words.{flat}
use Rattle.codec.specs.Over.{poured}
use Rattle.settings.specs.declared.Settings.{Settings}
use Rattle.supervisor.specs.Supervisor.{Traced}
use Rattle.history.specs.History.{Frame, Event, frame, mark, does, reads, Answer, stepped, marked, traced}
use Rattle.page.specs.Page.{answer}
use Rattle.tandem.specs.Levels.{low_to}
use Rattle.sheet.specs.Sheet.{LevelEvent, events_of, Provisioned, never, with, provisioned, frame_refusal, stands, actions, causes, traced as level_traced}
use Rattle.watch.specs.Watch.{marks}
use Rattle.reports.specs.Reports.{marks_in, second_at}
use Rattle.word.specs.Report.{report_word}
use Rattle.word.specs.Level.{level_word}
use Rattle.card.specs.Calls.{unless, Provision, fresh_refusal, fresh_sup}
use Rattle.calls.specs.History.{otn_step, otn_mark, otn_pending, otn_trace, otn_level_report, otn_level_trace, act_refusal, act_answer, act_fills, Use, bytes_after, Course, events_at, course_of, AllBytes}

-- an answer of the page as C has it: a refusal's number, or the report word of a frame, and 0 otherwise
abbrev pub answer_word : Answer → ℕ
answer_word (stepped refusal report) = unless refusal (report_word report) refusal
answer_word (marked refusal figures) = refusal
answer_word (traced refusal trace) = refusal

-- and what it makes of the lent buffer of an accepted trace
abbrev pub answer_fill : List ℕ → Answer → List ℕ
answer_fill out (stepped refusal report) = out
answer_fill out (marked refusal figures) = out
answer_fill out (traced refusal trace) = unless refusal trace out

-- the history of a course with its counts, the latest first; and without them
abbrev pub sheet_of : Course → List LevelEvent
sheet_of c = reverse (events_of c.calls)

abbrev pub page_of : Course → List Event
page_of c = reverse (events_at c)

-- the refusal of the next mark, by the page; and the seconds closed
abbrev pub mark_refused : Course → ℕ
mark_refused c = answer_word (answer c.settings (page_of c) (does mark))

abbrev pub closed_by : Course → ℕ
closed_by c = marks_in c.calls

-- "The first mark reports nothing": bit 8, and the record with the figures of a second, where one is closed
abbrev pub bit_by : Course → ℕ
bit_by c = cond (eqb (closed_by c) 0) 0 256

abbrev pub fill_by : Course → List ℕ → List ℕ → List ℕ
fill_by c figures out = cond (eqb (closed_by c) 0) out (poured out (flat figures))

-- the second closed last as the next mark reports it, and as it stands
abbrev pub next_reported : Course → List ℕ
next_reported c = second_at c.settings (c.calls ++ (marks ∷ [])) (closed_by c)

abbrev pub pending_now : Course → List ℕ
pending_now c = second_at c.settings c.calls (closed_by c)

-- what is told of level n: nothing of one that is not provisioned
unfoldable pub level_told : Settings → ℕ → Provisioned → List LevelEvent → ℕ
level_told p n never h = 0
level_told p n (with o) h = level_word true (stands p n o h) (actions p n o h) (causes p n o h)

-- its accepted trace, 13 where it has none
unfoldable pub level_read : Settings → ℕ → Provisioned → List LevelEvent → Traced
level_read p n never h = record { refusal = 13; trace = replicate 64 0 }
level_read p n (with o) h = level_traced p n o h

-- what holds of every next call on the supervisor's bytes b after uses whose course is c
pub record ByPage (b : List ℕ) (c : Course) : Type 0 where
  -- a frame: refused as on the sheet, whatever its counts are; and answered as on the page
  pub refuses : (f : Frame) (counts : List ℕ) → act_refusal b (otn_step f counts) ≡ frame_refusal f counts (sheet_of c)
  pub frames : (f : Frame) (counts : List ℕ) → low_to 6 counts ≡ true
      → act_answer b (otn_step f counts) ≡ answer_word (answer c.settings (page_of c) (does (frame f)))
  -- a mark, and the record that it fills: the second closed before, by the calls alone (crate reports)
  pub marks : (out : List ℕ) → act_answer b (otn_mark out) ≡ unless (mark_refused c) (bit_by c) (mark_refused c)
  pub records : (out : List ℕ) → act_fills b (otn_mark out) ≡ unless (mark_refused c) (fill_by c (next_reported c) out) out
  -- the pending second
  pub pendings : (out : List ℕ) → act_answer b (otn_pending out) ≡ bit_by c
  pub pending_fills : (out : List ℕ) → act_fills b (otn_pending out) ≡ fill_by c (pending_now c) out
  -- the accepted trace of section and path, into 64 bytes (12)
  pub traces : (layer : ℕ) (out : List ℕ) → length out ≡ 64 → act_answer b (otn_trace layer out) ≡ answer_word (answer c.settings (page_of c) (reads layer))
  pub trace_fills : (layer : ℕ) (out : List ℕ) → length out ≡ 64
      → act_fills b (otn_trace layer out) ≡ answer_fill out (answer c.settings (page_of c) (reads layer))
  -- a level's report and accepted trace
  pub tells : (n : ℕ) → 1 ≤ n → n ≤ 6 → act_answer b (otn_level_report n) ≡ level_told c.settings n (provisioned n c.calls) (sheet_of c)
  pub level_traces : (n : ℕ) (out : List ℕ) → 1 ≤ n → n ≤ 6 → length out ≡ 64
      → act_answer b (otn_level_trace n out) ≡ (level_read c.settings n (provisioned n c.calls) (sheet_of c)).refusal
  pub level_fills : (n : ℕ) (out : List ℕ) → 1 ≤ n → n ≤ 6 → length out ≡ 64
      → let a : Traced = level_read c.settings n (provisioned n c.calls) (sheet_of c) in act_fills b (otn_level_trace n out) ≡ unless a.refusal a.trace out

-- It holds of every list of uses after an accepted otn_fresh on any bytes.
abbrev pub EveryByPage : Type 0
EveryByPage = (sup : List ℕ) (p : Provision) (uses : List Use) → fresh_refusal sup p ≡ 0 → AllBytes uses
    → ByPage (bytes_after (fresh_sup sup p) uses) (course_of p uses)
