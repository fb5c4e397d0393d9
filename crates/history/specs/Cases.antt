-- "Frames to be proved together" (document 01), the page's worked example, and what these leave open: one table, one statement.
-- Assumes nothing.
use Rattle.std.specs.Prelude.{ℕ, zero, suc, ◌+◌, ◌%◌, Bool, true, false, not, ◌&&◌, List, [], ◌∷◌, ◌++◌, eqb, T, replicate}
use Rattle.std.specs.Bool.{beq}
use Rattle.overhead.specs.Overhead.{three_of, four_of, field_of, overhead_of, far_block}
use Rattle.overhead.specs.Bei.{path_bei, bei_of}
use Rattle.filter.specs.Filter.{up_of, add_of, filter_of}
use Rattle.filter.specs.Stat.{in_row, stat_of}
use Rattle.alignment.specs.Alignment.{frames_of, framing_of, lof_of, next_of, multi_of, lom_of, align_of}
use Rattle.names.specs.Names.{same, same_in, same_trace, compared_of}
use Rattle.layer.specs.Layer.{equal_of, closed_cycle, byte_of, trace_of, layer_of, tim_of}
use Rattle.signal.specs.Signal.{signal_of, stands_for, is_ais}
use Rattle.causes.specs.Causes.{ssf_of, tim_acts, head_of, report_of, no_report}
use Rattle.frame.specs.Layers.{line_of, section_of, section_stands, path_of, path_stands, layers_of, standing_of}
use Rattle.second.specs.Second.{near_of, far_of, sum_of, counted_of, one_frame, one_under, blocks_of, count_of, discard_of, closed_of}
use Rattle.supervisor.specs.Supervisor.{Stepped, Marked, fresh_of, step_refusal, stands_after, frame_of, step_of, next_second, mark_of}
use Rattle.history.specs.History.{Event, frame, mark}
use Rattle.causes.specs.declared.Report.{Report}
use Rattle.settings.specs.declared.Options.{Options}
use Rattle.settings.specs.declared.Settings.{Settings}
use Rattle.supervisor.specs.declared.Supervisor.{Supervisor}

-- a frame of these bytes, flags and counts
abbrev sent : List ℕ → ℕ → ℕ → ℕ → Event
sent overhead flags sm pm = frame (record { overhead = overhead; flags = flags; sm = sm; pm = pm })

-- the supervisor, with the last call's refusal, the last frame's report and the last mark's figures
pub record Seen : Type 0 where
  pub supervisor : Supervisor
  pub refusal : ℕ
  pub report : Report
  pub figures : List ℕ

unfoldable pub seen_after : Seen → List Event → Seen
seen_after x [] = x
seen_after x (frame f ∷ rest) =
    let r : Stepped = step_of x.supervisor f.overhead f.flags f.sm f.pm in
    seen_after (record { supervisor = r.supervisor; refusal = r.refusal; report = r.report; figures = x.figures }) rest
seen_after x (mark ∷ rest) =
    let r : Marked = mark_of x.supervisor in
    seen_after (record { supervisor = r.supervisor; refusal = r.refusal; report = x.report; figures = r.figures }) rest

-- one line of the table: a provisioning, calls from fresh, and what is seen at their end
pub record Row : Type 0 where
  pub settings : Settings
  pub acts : List Event
  pub shows : Seen → Bool

abbrev pub row : Settings → List Event → (Seen → Bool) → Row
row p acts q = record { settings = p; acts = acts; shows = q }

-- k = 1; DEGThr 1 and DEGM 2; a trace mode, TIMActDis, and names of one byte repeated, for the section; mode 0 for the path
abbrev options : ℕ → Bool → ℕ → Options
options mode disabled name = record { thr = 1; degm = 2; mode = mode; disabled = disabled; names = replicate 32 name }

abbrev plain : Settings
plain = record { k = 1; section = options 0 false 0; path = options 0 false 0 }

abbrev named : Bool → Settings
named disabled = record { k = 1; section = options 1 disabled 1; path = options 0 false 0 }

-- FAS; all else of an overhead that a case names: MFAS, TTI and status bytes of section and path
abbrev fas : List ℕ
fas = 0xF6 ∷ 0xF6 ∷ 0xF6 ∷ 0x28 ∷ 0x28 ∷ 0x28 ∷ []

abbrev overhead : List ℕ → ℕ → ℕ → ℕ → ℕ → ℕ → List ℕ
overhead six mfas sectiontti section pathtti path =
    six ++ ((mfas ∷ sectiontti ∷ 0 ∷ section ∷ replicate 6 0) ++ (replicate 16 0 ++ (replicate 9 0 ++ ((pathtti ∷ 0 ∷ path ∷ replicate 4 0) ++ replicate 16 0))))

-- n times the same
abbrev times : ℕ → Event → List Event
times n a = replicate n a

-- a frame of zeros, with flags and the SM count
abbrev zeros : ℕ → ℕ → Event
zeros flags sm = sent (replicate 64 0) flags sm 0

-- n frames with good framing and MFAS counting up from m, with the two status bytes
abbrev good : ℕ → ℕ → ℕ → ℕ → List Event
good zero m section path = []
good (suc n) m section path = sent (overhead fas (m % 256) 0 section 0 path) 0 0 0 ∷ good n (m + 1) section path

-- one of BEI 8 in both layers, with flags 1
abbrev failing : ℕ → Event
failing m = sent (overhead fas m 0 0x80 0 0x80) 1 0 0

-- (c): framing and MFAS for three frames
abbrev c3 : List Event
c3 = good 3 0 0 0

-- n frames with good framing, MFAS counting up from m, a section TTI byte by that number, and a path status byte
abbrev pub traced : ℕ → ℕ → (ℕ → ℕ) → ℕ → List Event
traced zero m tti path = []
traced (suc n) m tti path = sent (overhead fas (m % 256) (tti (m % 64)) 0 0 path) 0 0 0 ∷ traced n (m + 1) tti path

-- the same with another MFAS received than was sent
abbrev wrong : ℕ → ℕ → (ℕ → ℕ) → List Event
wrong zero m tti = []
wrong (suc n) m tti = sent (overhead fas ((m + 7) % 256) (tti (m % 64)) 0 0 0) 0 0 0 ∷ wrong n (m + 1) tti

abbrev up64 : ℕ → ℕ → List ℕ
up64 zero n = []
up64 (suc k) n = n ∷ up64 k (n + 1)

abbrev itself : ℕ → ℕ
itself n = n

abbrev pub zeroth : ℕ → ℕ
zeroth n = 0

-- what a row looks at
abbrev in_frame : Seen → Bool
in_frame x = x.report.standing.line.inframe

abbrev in_multi : Seen → Bool
in_multi x = x.report.standing.line.inmulti

abbrev lof : Seen → Bool
lof x = x.report.standing.line.lof

abbrev lom : Seen → Bool
lom x = x.report.standing.line.lom

abbrev pub head : ℕ → Seen → Bool
head n x = eqb x.report.head n

-- dBDI of the section and of the path; far-end blocks of the section and of the path
abbrev bdis : Bool → Bool → Seen → Bool
bdis section path x = beq x.report.standing.section.bdi section && beq x.report.standing.path.bdi path

abbrev far_blocks : ℕ → ℕ → Seen → Bool
far_blocks section path x = eqb x.supervisor.second.section.far.0 section && eqb x.supervisor.second.path.far.0 path

abbrev biae : Seen → Bool
biae x = x.report.standing.section.biae

abbrev trace_known : Seen → Bool
trace_known x = x.supervisor.layers.section.layer.known

abbrev degraded_now : Seen → Bool
degraded_now x = x.supervisor.layers.section.layer.deg.on

-- a second with one errored block; one with an errored block that dIAE discards; one without frames; one all failed
abbrev bad : List Event
bad = zeros 0 1 ∷ mark ∷ []

abbrev discarded : List Event
discarded = replicate 5 (sent (overhead (replicate 6 0) 0 0 4 0 0) 0 1 0) ++ (replicate 5 (zeros 0 1) ++ (mark ∷ []))

abbrev nothing : List Event
nothing = mark ∷ []

abbrev failed : List Event
failed = zeros 1 1 ∷ zeros 1 1 ∷ mark ∷ []

abbrev pub rows : List Row
rows =
    row plain (times 61 (zeros 0 0)) (λ x. not (lof x))  -- (a)
    ∷ row plain (times 62 (zeros 0 0)) (λ x. head 3 x)  -- (b)
    ∷ row plain (good 1 0 0 0) (λ x. not (in_frame x))  -- (c): IF at 2
    ∷ row plain (good 2 0 0 0) (λ x. in_frame x && not (in_multi x))  -- IM at 3
    ∷ row plain c3 (λ x. in_frame x && in_multi x)
    ∷ row plain (c3 ++ times 4 (zeros 0 0)) (λ x. in_frame x)  -- (d)
    ∷ row plain (c3 ++ times 5 (zeros 0 0)) (λ x. not (in_frame x))  -- (e)
    ∷ row plain (c3 ++ (good 2 3 0 7 ++ good 1 5 0 1)) (λ x. head 0 x && not (is_ais x.report.standing.path.signal))  -- (f)
    ∷ row plain (c3 ++ good 3 3 0 7) (λ x. head 6 x)  -- (g)
    ∷ row plain (c3 ++ good 4 3 8 8) (λ x. bdis false false x)  -- (h): in each layer, and in one alone
    ∷ row plain (c3 ++ good 4 3 8 0) (λ x. bdis false false x)
    ∷ row plain (c3 ++ good 4 3 0 8) (λ x. bdis false false x)
    ∷ row plain (c3 ++ good 5 3 8 8) (λ x. bdis true true x)  -- (i)
    ∷ row plain (c3 ++ good 5 3 8 0) (λ x. bdis true false x)
    ∷ row plain (c3 ++ good 5 3 0 8) (λ x. bdis false true x)
    ∷ row plain (c3 ++ good 1 3 0x80 0x80) (λ x. far_blocks 1 1 x)  -- (j): 8 is counted
    ∷ row plain (c3 ++ good 1 3 0x80 0) (λ x. far_blocks 1 0 x)
    ∷ row plain (c3 ++ good 1 3 0 0x80) (λ x. far_blocks 0 1 x)
    ∷ row plain (c3 ++ good 1 3 0x90 0x90) (λ x. far_blocks 0 0 x)  -- and 9 not
    ∷ row plain (c3 ++ good 1 3 0x80 0x90) (λ x. far_blocks 1 0 x)
    ∷ row plain (c3 ++ good 1 3 0x90 0x80) (λ x. far_blocks 0 1 x)
    ∷ row plain (zeros 3 0 ∷ []) (λ x. head 1 x)  -- (k)
    ∷ row plain (c3 ++ good 2 3 0xB0 0) (λ x. not (biae x))  -- (l)
    ∷ row plain (c3 ++ good 3 3 0xB0 0) (λ x. biae x)
    -- the page's example: two frames with flags 1, a mark
    ∷ row plain (zeros 1 0 ∷ zeros 1 0 ∷ mark ∷ [])
    (λ x. same x.figures (1 ∷ 2 ∷ 0 ∷ 2 ∷ 0 ∷ 0 ∷ 0 ∷ 0 ∷ 0 ∷ 0 ∷ 0 ∷ 0 ∷ 0 ∷ 0 ∷ 1 ∷ 0 ∷ 0 ∷ 0 ∷ 0 ∷ 1 ∷ 0 ∷ 0 ∷ []))
    -- BEI 8, 1, 2, 9, 11, 0 and 15 in both layers: three blocks, and eleven violations (document 02, K7)
    ∷ row plain
    (good 1 0 0x80 0x80 ++ (good 1 1 0x10 0x10 ++ (good 1 2 0x20 0x20 ++ (good 1 3 0x90 0x90 ++ (good 1 4 0xB0 0xB0 ++ (good 1 5 0 0 ++ (good 1 6 0xF0 0xF0 ++ (mark ∷ []))))))))
    (λ x. same x.figures (1 ∷ 7 ∷ 7 ∷ 0 ∷ 0 ∷ 0 ∷ 0 ∷ 0 ∷ 0 ∷ 0 ∷ 0 ∷ 0 ∷ 0 ∷ 3 ∷ 0 ∷ 0 ∷ 11 ∷ 0 ∷ 3 ∷ 0 ∷ 0 ∷ 11 ∷ []))
    -- three frames of BEI 8, and two more with flags 1: the sum is stopped as the far blocks are
    ∷ row plain (good 3 0 0x80 0x80 ++ (failing 3 ∷ failing 4 ∷ mark ∷ []))
    (λ x. same x.figures (1 ∷ 5 ∷ 3 ∷ 2 ∷ 0 ∷ 0 ∷ 0 ∷ 0 ∷ 0 ∷ 0 ∷ 0 ∷ 0 ∷ 0 ∷ 3 ∷ 1 ∷ 0 ∷ 24 ∷ 0 ∷ 3 ∷ 1 ∷ 0 ∷ 24 ∷ []))
    -- BEI 5 and three of 1011: the section's far values are discarded by dBIAE; in the path 1011 is none
    ∷ row plain (good 1 0 0x50 0x50 ++ (good 3 1 0xB0 0xB0 ++ (mark ∷ [])))
    (λ x. same x.figures (1 ∷ 4 ∷ 4 ∷ 0 ∷ 0 ∷ 0 ∷ 0 ∷ 0 ∷ 0 ∷ 0 ∷ 0 ∷ 0 ∷ 0 ∷ 0 ∷ 0 ∷ 0 ∷ 0 ∷ 0 ∷ 1 ∷ 0 ∷ 0 ∷ 5 ∷ []))
    -- dLOM after 62 frames in OOM, most of them in IF with MFAS standing still, and not after 61
    ∷ row plain (times 61 (sent (overhead fas 0 0 0 0 0) 0 0 0)) (λ x. in_frame x && not (lom x) && head 0 x)
    ∷ row plain (times 62 (sent (overhead fas 0 0 0 0 0) 0 0 0)) (λ x. lom x && head 4 x)
    -- MFAS from 254: IM at frame 3 with the number 0, three cycles of 64 from there, a trace accepted at 194 and not at 193
    ∷ row plain (traced 193 254 itself 0) (λ x. not (trace_known x))
    ∷ row plain (traced 194 254 itself 0) (λ x. trace_known x && same x.supervisor.layers.section.layer.accepted (up64 64 0))
    -- with four received MFAS wrong the bytes are still gathered by the local number
    ∷ row plain (traced 20 254 itself 0 ++ (wrong 4 274 itself ++ traced 170 278 itself 0))
    (λ x. trace_known x && same x.supervisor.layers.section.layer.accepted (up64 64 0))
    -- a mismatch with TIMActDis 1: cTIM is reported and the path is not failed; without it head 5
    ∷ row (named true) (traced 194 254 zeroth 0) (λ x. x.report.causes.section.tim && not x.report.path.tsf && head 0 x)
    ∷ row (named false) (traced 194 254 zeroth 0) (λ x. x.report.causes.section.tim && x.report.path.tsf && head 5 x)
    -- path dAIS clears in the frame in which section TIM begins to act
    ∷ row (named false) (traced 193 254 zeroth 7) (λ x. head 6 x && is_ais x.report.standing.path.signal)
    ∷ row (named false) (traced 194 254 zeroth 7) (λ x. head 5 x && not (is_ais x.report.standing.path.signal))
    -- a refused frame between the second and the third BDI changes nothing
    ∷ row plain (c3 ++ (good 2 3 8 8 ++ (zeros 4 0 ∷ good 2 5 8 8))) (λ x. bdis false false x)
    ∷ row plain (c3 ++ (good 2 3 8 8 ++ (zeros 4 0 ∷ []))) (λ x. eqb x.refusal 2)
    ∷ row plain (c3 ++ (good 2 3 8 8 ++ (zeros 4 0 ∷ good 3 5 8 8))) (λ x. bdis true true x)
    -- dDEG with DEGM 2: a discarded second is not bad and ends the row; two bad ones raise; an empty and an all-failed one clear
    ∷ row plain (bad ++ (discarded ++ bad)) (λ x. not (degraded_now x))
    ∷ row plain (bad ++ (discarded ++ (bad ++ bad))) (λ x. degraded_now x)
    ∷ row plain (bad ++ (bad ++ nothing)) (λ x. degraded_now x)
    ∷ row plain (bad ++ (bad ++ (nothing ++ failed))) (λ x. not (degraded_now x))
    ∷ []

abbrev start : Settings → Seen
start p = record { supervisor = fresh_of p; refusal = 0; report = no_report; figures = [] }

-- the definitions that a row computes with are opened here alone
unfoldable pub holds : Row → Bool
unfolding seen_after step_of step_refusal stands_after frame_of next_second mark_of no_report report_of head_of ssf_of tim_acts line_of section_of section_stands path_of path_stands layers_of standing_of near_of far_of sum_of counted_of one_frame one_under blocks_of count_of discard_of closed_of three_of four_of field_of overhead_of far_block path_bei bei_of up_of add_of filter_of in_row stat_of frames_of framing_of lof_of next_of multi_of lom_of align_of same same_in same_trace equal_of closed_cycle byte_of trace_of layer_of compared_of tim_of signal_of stands_for
holds r = r.shows (seen_after (start r.settings) r.acts)

unfoldable pub all_hold : List Row → Bool
unfolding holds
all_hold [] = true
all_hold (r ∷ rs) = holds r && all_hold rs

-- every row holds
abbrev pub FramesTogether : Type 0
FramesTogether = T (all_hold rows)
