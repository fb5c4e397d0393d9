-- Histories of calls from C: any of the nine calls, in any order, with any bytes, numbers and buffers. Assumes nothing.
use Rattle.std.specs.Prelude.{◌≡◌, Bool, cond, ◌&&◌, List, [], ◌∷◌, ◌++◌, ℕ, eqb, leb, length}
use Rattle.answer.specs.Checks.{check, first_of}
use Rattle.words.specs.Words.{flat}
use Rattle.codec.specs.Over.{poured}
use Rattle.settings.specs.declared.Request.{Request}
use Rattle.settings.specs.declared.Settings.{Settings}
use Rattle.settings.specs.Ranges.{SettingsIn}
use Rattle.supervisor.specs.Supervisor.{fresh_of, layer_at}
use Rattle.history.specs.History.{Frame, Event, Accepted}
use Rattle.history.specs.Ranges.{IsBytes}
use Rattle.tandem.specs.Levels.{level_at}
use Rattle.tandem.specs.Tandem.{fresh_tandem, give_refusal, marked_of, level_report, level_traced}
use Rattle.late.specs.Late.{pending_of, late_marked}
use Rattle.late.specs.declared.Late.{Late}
use Rattle.reports.specs.Reports.{late_at}
use Rattle.tandem.specs.declared.Tandem.{Tandem}
use Rattle.watch.specs.Watch.{LevelCall, gives, frames, marks, refusal_at, framed_at, AllTaken, events_among}
use Rattle.sheet.specs.Sheet.{reached}
use Rattle.slots.specs.Image.{late_bytes}
use Rattle.word.specs.Report.{report_word}
use Rattle.word.specs.Table.{bits_of}
use Rattle.card.specs.Calls.{unless, Provision, provision_refusal, settings_by, fresh_refusal, fresh_sup, level_refusal, level_sup, call_refusal, call_answer, call_sup, told_bit, mark_refusal, mark_answer, mark_sup, mark_record, pending_refusal, pending_answer, pending_record, trace_refused, trace_out, told_refusal, told_word, told_answer, level_trace_refused, level_trace_out}

-- An act of C, named as the call: with a level's request and names, a frame and its six counts (otn_step has six counts 0), a layer or a level, and the
-- record or the buffer that the call is lent to fill.
pub data Act : Type 0 where
  otn_fresh : Provision → Act
  otn_level : ℕ → Request → List ℕ → Act
  otn_step : Frame → List ℕ → Act
  otn_mark : List ℕ → Act
  otn_pending : List ℕ → Act
  otn_trace : ℕ → List ℕ → Act
  otn_level_report : ℕ → Act
  otn_level_trace : ℕ → List ℕ → Act

-- By the calls' contracts, on bytes: the refusal, the answer, the buffer after it and the supervisor's bytes after it.

unfoldable pub act_refusal : List ℕ → Act → ℕ
act_refusal sup (otn_fresh p) = fresh_refusal sup p
act_refusal sup (otn_level n r names) = level_refusal sup n r names
act_refusal sup (otn_step f counts) = call_refusal sup f.overhead f.flags f.sm f.pm counts
act_refusal sup (otn_mark out) = mark_refusal sup
act_refusal sup (otn_pending out) = pending_refusal sup
act_refusal sup (otn_trace layer out) = trace_refused sup layer out
act_refusal sup (otn_level_report n) = told_refusal sup n
act_refusal sup (otn_level_trace n out) = level_trace_refused sup n out

unfoldable pub act_answer : List ℕ → Act → ℕ
act_answer sup (otn_fresh p) = fresh_refusal sup p
act_answer sup (otn_level n r names) = level_refusal sup n r names
act_answer sup (otn_step f counts) = call_answer sup f.overhead f.flags f.sm f.pm counts
act_answer sup (otn_mark out) = mark_answer sup
act_answer sup (otn_pending out) = pending_answer sup
act_answer sup (otn_trace layer out) = trace_refused sup layer out
act_answer sup (otn_level_report n) = told_answer sup n
act_answer sup (otn_level_trace n out) = level_trace_refused sup n out

unfoldable pub act_fills : List ℕ → Act → List ℕ
act_fills sup (otn_fresh p) = []
act_fills sup (otn_level n r names) = []
act_fills sup (otn_step f counts) = []
act_fills sup (otn_mark out) = mark_record sup out
act_fills sup (otn_pending out) = pending_record sup out
act_fills sup (otn_trace layer out) = trace_out sup layer out
act_fills sup (otn_level_report n) = []
act_fills sup (otn_level_trace n out) = level_trace_out sup n out

unfoldable pub act_bytes : List ℕ → Act → List ℕ
act_bytes sup (otn_fresh p) = fresh_sup sup p
act_bytes sup (otn_level n r names) = level_sup sup n r names
act_bytes sup (otn_step f counts) = call_sup sup f.overhead f.flags f.sm f.pm counts
act_bytes sup (otn_mark out) = mark_sup sup
act_bytes sup (otn_pending out) = sup
act_bytes sup (otn_trace layer out) = sup
act_bytes sup (otn_level_report n) = sup
act_bytes sup (otn_level_trace n out) = sup

-- the buffer before it
unfoldable pub buffer_of : Act → List ℕ
buffer_of (otn_fresh p) = []
buffer_of (otn_level n r names) = []
buffer_of (otn_step f counts) = []
buffer_of (otn_mark out) = out
buffer_of (otn_pending out) = out
buffer_of (otn_trace layer out) = out
buffer_of (otn_level_report n) = []
buffer_of (otn_level_trace n out) = out

-- A use: an act on the supervisor's own bytes, as the last use left them, or on other bytes.
pub data Lent : Type 0 where
  own : Lent
  other : List ℕ → Lent

pub record Use : Type 0 where
  pub lent : Lent
  pub act : Act

-- the supervisor's bytes after a use, and after a list of them: an act on other bytes leaves them alone
unfoldable pub bytes_used : List ℕ → Lent → Act → List ℕ
bytes_used sup own a = act_bytes sup a
bytes_used sup (other l) a = sup

unfoldable pub bytes_after : List ℕ → List Use → List ℕ
bytes_after sup [] = sup
bytes_after sup (u ∷ us) = bytes_after (bytes_used sup u.lent u.act) us

-- By the definitions, on a supervisor with its levels and its pending second: the refusal, the answer and the buffer after the act.

unfoldable pub refused_on : Late → Act → ℕ
refused_on s (otn_fresh p) = provision_refusal p
refused_on s (otn_level n r names) = give_refusal s.tandem n r names
refused_on s (otn_step f counts) = refusal_at s.tandem f counts
refused_on s (otn_mark out) = (late_marked s).refusal
refused_on s (otn_pending out) = 0
refused_on s (otn_trace layer out) =
    first_of (check 11 (leb layer 1) ∷ check 12 (eqb (length out) 64) ∷ check 13 (layer_at s.tandem.base layer).known ∷ [])
refused_on s (otn_level_report n) = (level_report s.tandem n).refusal
refused_on s (otn_level_trace n out) =
    first_of (check 12 (eqb (length out) 64) ∷ check 13 ((level_at s.tandem.levels n).given && (level_at s.tandem.levels n).state.layer.known) ∷ [])

unfoldable pub answer_on : Late → Act → ℕ
answer_on s (otn_fresh p) = provision_refusal p
answer_on s (otn_level n r names) = give_refusal s.tandem n r names
answer_on s (otn_step f counts) = unless (refusal_at s.tandem f counts) (report_word (framed_at s.tandem f counts).report) (refusal_at s.tandem f counts)
answer_on s (otn_mark out) = unless (late_marked s).refusal (told_bit (late_marked s).told) (late_marked s).refusal
answer_on s (otn_pending out) = told_bit (pending_of s).told
answer_on s (otn_trace layer out) = refused_on s (otn_trace layer out)
answer_on s (otn_level_report n) =
    unless (level_report s.tandem n).refusal (told_word (level_report s.tandem n)) (level_report s.tandem n).refusal
answer_on s (otn_level_trace n out) = refused_on s (otn_level_trace n out)

-- a second's figures in the record, where one is told
abbrev pub told_in : Bool → List ℕ → List ℕ → List ℕ
told_in told figures out = cond told (poured out (flat figures)) out

unfoldable pub fill_on : Late → Act → List ℕ
fill_on s (otn_fresh p) = []
fill_on s (otn_level n r names) = []
fill_on s (otn_step f counts) = []
fill_on s (otn_mark out) = unless (late_marked s).refusal (told_in (late_marked s).told (late_marked s).figures out) out
fill_on s (otn_pending out) = told_in (pending_of s).told (pending_of s).figures out
fill_on s (otn_trace layer out) = unless (refused_on s (otn_trace layer out)) (layer_at s.tandem.base layer).accepted out
fill_on s (otn_level_report n) = []
fill_on s (otn_level_trace n out) = unless (refused_on s (otn_level_trace n out)) (level_traced s.tandem n).trace out

-- The course of the uses by the definitions: the settings of the last accepted otn_fresh, and the levels, frames and marks accepted since.
pub record Course : Type 0 where
  pub settings : Settings
  pub calls : List LevelCall

-- its frames and marks, as line, section and path have them
abbrev pub events_at : Course → List Event
events_at c = events_among c.calls

-- the definitions' supervisor there, and with its pending second
abbrev pub tandem_at : Course → Tandem
tandem_at c = reached c.settings c.calls

abbrev pub sup_at : Course → Late
sup_at c = late_at c.settings c.calls

abbrev pub begun_by : Provision → Course
begun_by p = record { settings = settings_by p; calls = [] }

abbrev pub with_call : Course → LevelCall → Course
with_call c k = record { settings = c.settings; calls = c.calls ++ (k ∷ []) }

-- the course after an act on the supervisor's bytes: an accepted otn_fresh starts anew, an accepted level, frame or mark is one call more
unfoldable pub course_acted : Course → Act → Course
course_acted c (otn_fresh p) = unless (provision_refusal p) (begun_by p) c
course_acted c (otn_level n r names) = unless (give_refusal (tandem_at c) n r names) (with_call c (gives n r names)) c
course_acted c (otn_step f counts) = unless (refusal_at (tandem_at c) f counts) (with_call c (frames f counts)) c
course_acted c (otn_mark out) = unless (marked_of (tandem_at c)).refusal (with_call c marks) c
course_acted c (otn_pending out) = c
course_acted c (otn_trace layer out) = c
course_acted c (otn_level_report n) = c
course_acted c (otn_level_trace n out) = c

unfoldable pub course_used : Course → Lent → Act → Course
course_used c own a = course_acted c a
course_used c (other l) a = c

unfoldable pub course_after : Course → List Use → Course
course_after c [] = c
course_after c (u ∷ us) = course_after (course_used c u.lent u.act) us

abbrev pub course_of : Provision → List Use → Course
course_of p uses = course_after (begun_by p) uses

-- the overhead of every frame is bytes, as a uint8_t is
abbrev pub ActBytes : Act → Type 0
ActBytes (otn_fresh p) = Unit {0}
ActBytes (otn_level n r names) = Unit {0}
ActBytes (otn_step f counts) = IsBytes f.overhead
ActBytes (otn_mark out) = Unit {0}
ActBytes (otn_pending out) = Unit {0}
ActBytes (otn_trace layer out) = Unit {0}
ActBytes (otn_level_report n) = Unit {0}
ActBytes (otn_level_trace n out) = Unit {0}

abbrev pub AllBytes : List Use → Type 0
AllBytes [] = Unit {0}
AllBytes (u ∷ us) = ActBytes u.act × AllBytes us

-- Demand 2 on bytes: what holds of the supervisor's bytes b after uses whose course is c.
pub record FromFresh (b : List ℕ) (c : Course) : Type 0 where
  -- the course is one of the definitions, with levels and of line, section and path alone, and the bytes are its supervisor's
  pub settings : SettingsIn c.settings
  pub taken : AllTaken (fresh_tandem (fresh_of c.settings)) c.calls
  pub accepted : Accepted (fresh_of c.settings) (events_at c)
  pub same : (sup_at c).tandem ≡ tandem_at c
  pub holds : b ≡ late_bytes (sup_at c)
  -- every next act is that of the definitions there; C reads its refusal from its answer (otn_refusal)
  pub refuses : (a : Act) → act_refusal b a ≡ refused_on (sup_at c) a
  pub answers : (a : Act) → act_answer b a ≡ answer_on (sup_at c) a
  pub told : (a : Act) → bits_of (act_answer b a) 0 8 ≡ act_refusal b a
  pub fills : (a : Act) → act_fills b a ≡ fill_on (sup_at c) a
  pub leaves : (a : Act) → act_bytes b a ≡ late_bytes (sup_at (course_acted c a))
  -- 17 is not met on these bytes, and is met on bytes of another length
  pub not17 : (a : Act) → act_refusal b a ≡ 17 → ⊥
  pub elsewhere : (l : List ℕ) → (length l ≡ 2652 → ⊥) → (a : Act) → act_refusal l a ≡ 17
  -- a refused act, on any bytes, leaves the bytes and the buffer as they were
  pub kept : (l : List ℕ) (a : Act) → (act_refusal l a ≡ 0 → ⊥) → (act_bytes l a ≡ l) × (act_fills l a ≡ buffer_of a)

-- It holds of every list of uses after an accepted otn_fresh on any bytes.
abbrev pub EveryFromFresh : Type 0
EveryFromFresh = (sup : List ℕ) (p : Provision) (uses : List Use) → fresh_refusal sup p ≡ 0 → AllBytes uses
    → FromFresh (bytes_after (fresh_sup sup p) uses) (course_of p uses)
