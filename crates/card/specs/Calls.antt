-- What each call from C answers, and what the lent bytes hold after it: the supervisor with six tandem levels and its pending second that stands in 2652
-- bytes, by its definitions. "Checked in number order, after 17": each call's tests are a list, 17 first. "A refusal answers its number and nothing else; supervisor
-- and lent buffers keep their contents." Assumes nothing.
use Rattle.std.specs.Prelude.{◌≡◌, Bool, cond, ◌&&◌, List, [], ◌∷◌, ◌++◌, ℕ, ◌+◌, eqb, leb, ltb, length}
use Rattle.answer.specs.Checks.{Check, check, first_of}
use Rattle.words.specs.Words.{flat}
use Rattle.codec.specs.Over.{poured}
use Rattle.signal.specs.Signal.{raised_of}
use Rattle.causes.specs.Causes.{tim_acts}
use Rattle.lookup.specs.Lookup.{report_by_table}
use Rattle.layer.specs.Layer.{tim_of}
use Rattle.second.specs.Second.{closed_of, figures_of}
use Rattle.settings.specs.Settings.{settings_checks, settings_refusal, options_of}
use Rattle.supervisor.specs.Supervisor.{fresh_of, stands_after, frame_of, layer_at}
use Rattle.settings.specs.declared.Request.{Request}
use Rattle.settings.specs.declared.Settings.{Settings}
use Rattle.supervisor.specs.declared.Supervisor.{Supervisor}
use Rattle.numbers.specs.Numbers.{head_bytes, align_bytes}
use Rattle.numbers.specs.Held.{Held, held_bytes, layer_from}
use Rattle.image.specs.Image.{line_head, counts_of, section_held, path_held}
use Rattle.tandem.specs.Levels.{is_level, level_at}
use Rattle.tandem.specs.Tandem.{fresh_tandem, request_checks, place_checks, LevelReport, give_of, frame_checks, framed_of, level_report, level_traced}
use Rattle.tandem.specs.declared.Level.{Level}
use Rattle.tandem.specs.declared.Tandem.{Tandem}
use Rattle.late.specs.Late.{fresh_late, pending_of, late_marked}
use Rattle.late.specs.declared.Erred.{Erred}
use Rattle.slots.specs.Image.{late_bytes, late_from, late_sound}
use Rattle.word.specs.Report.{report_word}
use Rattle.word.specs.Level.{level_word}
-- a frame's refusals but 17, by the frames that the open second holds
pub use Rattle.tandem.specs.Tandem.{refusal_by}
use Rattle.card.specs.declared.Layered.{Layered}
use Rattle.card.specs.declared.Reported.{Reported}

-- by a refusal's number: what is made where it is 0, what is kept where it is not
abbrev pub unless : {A : Type 0} → ℕ → A → A → A
unless refusal made kept = cond (eqb refusal 0) made kept

-- the supervisor with levels in the bytes, and the bytes with another in its place: the pending second stays
abbrev pub tandem_of : List ℕ → Tandem
tandem_of sup = (late_from sup).tandem

abbrev pub late_with : List ℕ → Tandem → List ℕ
late_with sup t = late_bytes (record { tandem = t; pending = (late_from sup).pending })

-- what C provisions: its twelve arguments but the supervisor
pub record Provision : Type 0 where
  pub k : ℕ
  pub section : Request
  pub path : Request
  pub snames : List ℕ
  pub pnames : List ℕ

-- from C's arguments
abbrev pub provision_by : ℕ → ℕ → ℕ → ℕ → ℕ → ℕ → ℕ → ℕ → ℕ → List ℕ → List ℕ → Provision
provision_by k sthr sdegm pthr pdegm smode pmode sdis pdis snames pnames = record {
  k = k;
  section = record { thr = sthr; degm = sdegm; mode = smode; dis = sdis };
  path = record { thr = pthr; degm = pdegm; mode = pmode; dis = pdis };
  snames = snames;
  pnames = pnames;
}

-- otn_fresh: 17 where the bytes have a wrong length (they are not looked at), then 5 to 10
abbrev pub fresh_checks : List ℕ → Provision → List Check
fresh_checks sup p = check 17 (eqb (length sup) 2652) ∷ settings_checks p.k p.section p.path p.snames p.pnames

unfoldable pub fresh_refusal : List ℕ → Provision → ℕ
fresh_refusal sup p = first_of (fresh_checks sup p)

-- the settings' refusal, 5 to 10, and the settings where it is 0
abbrev pub provision_refusal : Provision → ℕ
provision_refusal p = settings_refusal p.k p.section p.path p.snames p.pnames

abbrev pub settings_by : Provision → Settings
settings_by p = record { k = p.k; section = options_of p.section p.snames; path = options_of p.path p.pnames }

abbrev pub fresh_by : Provision → Supervisor
fresh_by p = fresh_of (settings_by p)

unfoldable pub fresh_sup : List ℕ → Provision → List ℕ
fresh_sup sup p = unless (fresh_refusal sup p) (late_bytes (fresh_late (fresh_tandem (fresh_by p)))) sup

pub record FreshCall (sup : List ℕ) (p : Provision) (r : ℕ) (after : List ℕ) : Type 0 where
  pub answers : r ≡ fresh_refusal sup p
  pub holds : after ≡ fresh_sup sup p

-- what C asks of a level
abbrev pub request_by : ℕ → ℕ → ℕ → ℕ → Request
request_by thr degm mode dis = record { thr = thr; degm = degm; mode = mode; dis = dis }

-- otn_level: 17, then 6 to 10, 16 and 18; level n is provisioned
abbrev pub level_checks : List ℕ → ℕ → Request → List ℕ → List Check
level_checks sup n r names =
    check 17 (late_sound sup) ∷ (request_checks (tandem_of sup).base.settings.k r names ++ place_checks (tandem_of sup) n)

unfoldable pub level_refusal : List ℕ → ℕ → Request → List ℕ → ℕ
level_refusal sup n r names = first_of (level_checks sup n r names)

unfoldable pub level_sup : List ℕ → ℕ → Request → List ℕ → List ℕ
level_sup sup n r names = unless (level_refusal sup n r names) (late_with sup (give_of (tandem_of sup) n r names).tandem) sup

pub record LevelCall (sup : List ℕ) (n : ℕ) (request : Request) (names : List ℕ) (r : ℕ) (after : List ℕ) : Type 0 where
  pub answers : r ≡ level_refusal sup n request names
  pub holds : after ≡ level_sup sup n request names

-- otn_step_levels, with the violation counts of levels 1 to 6: 17, then 1 to 4; an accepted frame's report stands above the low byte. otn_step is this
-- with six counts 0.
abbrev pub call_checks : List ℕ → List ℕ → ℕ → ℕ → ℕ → List ℕ → List Check
call_checks sup overhead flags sm pm counts = check 17 (late_sound sup) ∷ frame_checks (tandem_of sup) overhead flags sm pm counts

unfoldable pub call_refusal : List ℕ → List ℕ → ℕ → ℕ → ℕ → List ℕ → ℕ
call_refusal sup overhead flags sm pm counts = first_of (call_checks sup overhead flags sm pm counts)

-- the bytes of line, section and path whose layers are those after a frame, and in which the frame is not yet filed
abbrev pub unfiled : Supervisor → Supervisor → List ℕ
unfiled before after =
    (head_bytes (line_head after) ++ align_bytes after.layers.align)
    ++ (flat (counts_of before.second) ++ (held_bytes (section_held after) ++ (held_bytes (path_held after) ++ [])))

-- a frame in line, section and path: what stands after it with the path's dAIS, dOCI and dLCK, or its report by the table, and the multiframe, which the levels take
abbrev pub layered_of : Supervisor → List ℕ → ℕ → ℕ → ℕ → Layered
layered_of s overhead flags sm pm = record {
  standing = stands_after s overhead flags;
  raised = raised_of (stands_after s overhead flags).path.signal;
  multi = (frame_of s overhead flags sm pm).layers.align.multi;
}

abbrev pub reported_of : Supervisor → List ℕ → ℕ → ℕ → ℕ → Reported
reported_of s overhead flags sm pm =
    record { report = report_by_table (stands_after s overhead flags) sm pm; multi = (frame_of s overhead flags sm pm).layers.align.multi }

unfoldable pub call_answer : List ℕ → List ℕ → ℕ → ℕ → ℕ → List ℕ → ℕ
call_answer sup overhead flags sm pm counts =
    let refusal : ℕ = call_refusal sup overhead flags sm pm counts in
    unless refusal (report_word (framed_of (tandem_of sup) overhead flags sm pm counts).report) refusal

unfoldable pub call_sup : List ℕ → List ℕ → ℕ → ℕ → ℕ → List ℕ → List ℕ
call_sup sup overhead flags sm pm counts =
    unless (call_refusal sup overhead flags sm pm counts) (late_with sup (framed_of (tandem_of sup) overhead flags sm pm counts).tandem) sup

pub record StepCall (sup overhead : List ℕ) (flags sm pm : ℕ) (counts : List ℕ) (r : ℕ) (after : List ℕ) : Type 0 where
  pub answers : r ≡ call_answer sup overhead flags sm pm counts
  pub holds : after ≡ call_sup sup overhead flags sm pm counts

-- bit 8 of an answer: a second is told
abbrev pub told_bit : Bool → ℕ
told_bit told = cond told 256 0

-- the figures of line, section and path
abbrev pub figures_at : Supervisor → List ℕ
figures_at s = figures_of (s.seconds + 1) (closed_of s.second)

-- pIAE and pBIAE of the open second by a layer's record
abbrev pub erred_in : Held → Erred
erred_in h = record { iae = h.state.iaeseen; biae = h.state.biaeseen }

-- otn_mark: 17, then 4; where a second is told its fifty-two figures, as words, go into the record as far as it has room, and otherwise the record is left
-- alone
abbrev pub mark_checks : List ℕ → List Check
mark_checks sup = check 17 (late_sound sup) ∷ check 4 (ltb (tandem_of sup).base.seconds 4294967295) ∷ []

unfoldable pub mark_refusal : List ℕ → ℕ
mark_refusal sup = first_of (mark_checks sup)

unfoldable pub mark_answer : List ℕ → ℕ
mark_answer sup =
    let refusal : ℕ = mark_refusal sup in
    unless refusal (told_bit (late_marked (late_from sup)).told) refusal

unfoldable pub mark_sup : List ℕ → List ℕ
mark_sup sup = unless (mark_refusal sup) (late_bytes (late_marked (late_from sup)).late) sup

unfoldable pub mark_record : List ℕ → List ℕ → List ℕ
mark_record sup out =
    unless (mark_refusal sup) (cond (late_marked (late_from sup)).told (poured out (flat (late_marked (late_from sup)).figures)) out) out

pub record MarkCall (sup out : List ℕ) (r : ℕ) (after filled : List ℕ) : Type 0 where
  pub answers : r ≡ mark_answer sup
  pub holds : after ≡ mark_sup sup
  pub fills : filled ≡ mark_record sup out

-- otn_pending: 17; the pending second, if there is one, as it would be reported now. The supervisor is only read.
abbrev pub pending_checks : List ℕ → List Check
pending_checks sup = check 17 (late_sound sup) ∷ []

unfoldable pub pending_refusal : List ℕ → ℕ
pending_refusal sup = first_of (pending_checks sup)

unfoldable pub pending_answer : List ℕ → ℕ
pending_answer sup =
    let refusal : ℕ = pending_refusal sup in
    unless refusal (told_bit (pending_of (late_from sup)).told) refusal

unfoldable pub pending_record : List ℕ → List ℕ → List ℕ
pending_record sup out =
    unless (pending_refusal sup) (cond (pending_of (late_from sup)).told (poured out (flat (pending_of (late_from sup)).figures)) out) out

pub record PendingCall (sup out : List ℕ) (r : ℕ) (filled : List ℕ) : Type 0 where
  pub answers : r ≡ pending_answer sup
  pub fills : filled ≡ pending_record sup out

-- otn_trace: 17, then 11 to 13; the supervisor is only read
abbrev pub trace_checks : List ℕ → ℕ → List ℕ → List Check
trace_checks sup layer out =
    check 17 (late_sound sup)
    ∷ check 11 (leb layer 1)
    ∷ check 12 (eqb (length out) 64)
    ∷ check 13 (layer_at (tandem_of sup).base layer).known
    ∷ []

unfoldable pub trace_refused : List ℕ → ℕ → List ℕ → ℕ
trace_refused sup layer out = first_of (trace_checks sup layer out)

unfoldable pub trace_out : List ℕ → ℕ → List ℕ → List ℕ
trace_out sup layer out = unless (trace_refused sup layer out) (layer_at (tandem_of sup).base layer).accepted out

pub record TraceCall (sup : List ℕ) (layer : ℕ) (out : List ℕ) (r : ℕ) (after : List ℕ) : Type 0 where
  pub answers : r ≡ trace_refused sup layer out
  pub holds : after ≡ trace_out sup layer out

-- otn_level_report: 17, then 18; what is told of level n stands above the low byte, nothing of one that is not provisioned. The supervisor is only read.
abbrev pub told_checks : List ℕ → ℕ → List Check
told_checks sup n = check 17 (late_sound sup) ∷ check 18 (is_level n) ∷ []

unfoldable pub told_refusal : List ℕ → ℕ → ℕ
told_refusal sup n = first_of (told_checks sup n)

abbrev pub told_word : LevelReport → ℕ
told_word a = level_word a.given a.stands a.actions a.causes

-- whether TIM acts by a layer's record
abbrev pub acts_in : Held → Bool
acts_in h = tim_acts (tim_of (layer_from h) h.front.mode h.names) h.front.disabled

unfoldable pub told_answer : List ℕ → ℕ → ℕ
told_answer sup n =
    let refusal : ℕ = told_refusal sup n in
    unless refusal (told_word (level_report (tandem_of sup) n)) refusal

pub record LevelReportCall (sup : List ℕ) (n r : ℕ) : Type 0 where
  pub answers : r ≡ told_answer sup n

-- otn_level_trace: 17, then 12 and 13: one that is not provisioned, or is none of the six, has no accepted trace. The supervisor is only read.
abbrev pub traced_at : List ℕ → ℕ → Level
traced_at sup n = level_at (tandem_of sup).levels n

abbrev pub level_trace_checks : List ℕ → ℕ → List ℕ → List Check
level_trace_checks sup n out =
    check 17 (late_sound sup)
    ∷ check 12 (eqb (length out) 64)
    ∷ check 13 ((traced_at sup n).given && (traced_at sup n).state.layer.known)
    ∷ []

unfoldable pub level_trace_refused : List ℕ → ℕ → List ℕ → ℕ
level_trace_refused sup n out = first_of (level_trace_checks sup n out)

unfoldable pub level_trace_out : List ℕ → ℕ → List ℕ → List ℕ
level_trace_out sup n out = unless (level_trace_refused sup n out) (level_traced (tandem_of sup) n).trace out

pub record LevelTraceCall (sup : List ℕ) (n : ℕ) (out : List ℕ) (r : ℕ) (after : List ℕ) : Type 0 where
  pub answers : r ≡ level_trace_refused sup n out
  pub holds : after ≡ level_trace_out sup n out
