-- The supervisor with six tandem levels (document 02, K1): the supervisor of line, section and path as it was, and the levels beside it. A level is
-- handed the path's SSF and the multiframe, and nothing else of section and path. Assumes nothing.
use Rattle.std.specs.Prelude.{ℕ, Bool, false, cond, not, ◌&&◌, ◌||◌, List, [], ◌∷◌, ◌++◌, leb, ltb, eqb, length, replicate}
use Rattle.answer.specs.Checks.{Check, check, first_of}
use Rattle.answer.specs.Each.{each_from}
use Rattle.alignment.specs.declared.Multi.{Multi}
use Rattle.settings.specs.Settings.{thr_good, degm_good, options_of}
use Rattle.settings.specs.declared.Request.{Request}
use Rattle.causes.specs.Causes.{path_ssf, no_report}
use Rattle.causes.specs.declared.Report.{Report}
use Rattle.frame.specs.Layers.{standing_of}
use Rattle.level.specs.Level.{level_stands, level_actions, level_causes}
use Rattle.level.specs.declared.Status.TheVariants.{Clear}
use Rattle.level.specs.declared.LevelStands.{LevelStands}
use Rattle.level.specs.declared.LevelActions.{LevelActions}
use Rattle.level.specs.declared.LevelCauses.{LevelCauses}
use Rattle.supervisor.specs.Supervisor.{Stepped, Marked, Traced, step_of, mark_of}
use Rattle.supervisor.specs.declared.Supervisor.{Supervisor}
use Rattle.tandem.specs.Levels.{given_level, blank_level, framed_levels, marked_levels, level_figures, is_level, level_at, free_at, placed_at, low_to}
use Rattle.tandem.specs.declared.Level.{Level}
use Rattle.tandem.specs.declared.Tandem.{Tandem}
use Rattle.tandem.specs.declared.TandemReport.{TandemReport}
use Rattle.tandem.specs.declared.LevelReport as accepted

-- the answers as the C edge has them: the refusal's number, 0 where the call is accepted
pub record Given : Type 0 where
  pub refusal : ℕ
  pub tandem : Tandem

pub record TandemStepped : Type 0 where
  pub refusal : ℕ
  pub report : Report
  pub stands : List LevelStands
  pub tandem : Tandem

pub record TandemMarked : Type 0 where
  pub refusal : ℕ
  pub figures : List ℕ
  pub tandem : Tandem

pub record LevelReport : Type 0 where
  pub refusal : ℕ
  pub given : Bool
  pub stands : LevelStands
  pub actions : LevelActions
  pub causes : LevelCauses

-- what they report where the call is accepted
abbrev pub reported : TandemStepped → TandemReport
reported a = record { report = a.report; stands = a.stands }

abbrev pub told : LevelReport → accepted.LevelReport
told a = record { given = a.given; stands = a.stands; actions = a.actions; causes = a.causes }

-- a supervisor with no level provisioned, and no flags met
abbrev pub fresh_tandem : Supervisor → Tandem
fresh_tandem s = record { base = s; flags = 0; levels = replicate 6 blank_level }

-- a frame or a mark was accepted
abbrev pub begun : Supervisor → Bool
begun s = ltb 0 s.seconds || ltb 0 s.second.frames.0

-- "its own provisioning record .. with the ranges and refusals of 6 to 10"; DEGThr by the supervisor's k
abbrev pub request_checks : ℕ → Request → List ℕ → List Check
request_checks k r names =
    check 6 (thr_good k r.thr)
    ∷ check 7 (degm_good r.degm)
    ∷ check 8 (leb r.mode 3)
    ∷ check 9 (leb r.dis 2)
    ∷ check 10 (eqb (length names) 32)
    ∷ []

unfoldable pub request_refusal : ℕ → Request → List ℕ → ℕ
request_refusal k r names = first_of (request_checks k r names)

-- "ahead of the first frame": "16 also for kind 4 after a frame or mark, 18 level not 1 to 6 or given twice"
abbrev pub place_checks : Tandem → ℕ → List Check
place_checks t n =
    check 16 (not (begun t.base))
    ∷ check 18 (free_at t.levels n)
    ∷ []

-- of a call "Checked in number order" (document 01); "in a trace 18 and 19 follow 16", ahead of the rest
unfoldable pub give_refusal : Tandem → ℕ → Request → List ℕ → ℕ
give_refusal t n r names = first_of (request_checks t.base.settings.k r names ++ place_checks t n)

unfoldable pub record_refusal : Tandem → ℕ → Request → List ℕ → ℕ
record_refusal t n r names = first_of (place_checks t n ++ request_checks t.base.settings.k r names)

-- a level provisioned, and nothing else changed
abbrev pub with_level : Tandem → ℕ → Request → List ℕ → Tandem
with_level t n r names = record { base = t.base; flags = t.flags; levels = placed_at t.levels n (given_level (options_of r names)) }

-- the provisioning of a level, where a refusal is known
unfoldable pub given_by : ℕ → Tandem → ℕ → Request → List ℕ → Given
given_by refusal t n r names =
    cond (eqb refusal 0)
    (record { refusal = 0; tandem = with_level t n r names })
    (record { refusal = refusal; tandem = t })

-- from C, and by a record of a trace
abbrev pub give_of : Tandem → ℕ → Request → List ℕ → Given
give_of t n r names = given_by (give_refusal t n r names) t n r names

abbrev pub recorded_of : Tandem → ℕ → Request → List ℕ → Given
recorded_of t n r names = given_by (record_refusal t n r names) t n r names

-- a frame's refusals 1 to 4 as they were (document 01), each of the six counts being among those of 3, its level provisioned or not
abbrev pub frame_checks : Tandem → List ℕ → ℕ → ℕ → ℕ → List ℕ → List Check
frame_checks t overhead flags sm pm counts =
    check 1 (eqb (length overhead) 64)
    ∷ check 2 (leb flags 3)
    ∷ check 3 (leb sm 8 && leb pm 8 && low_to 6 counts)
    ∷ check 4 (ltb t.base.second.frames.0 400000)
    ∷ []

unfoldable pub frame_refusal : Tandem → List ℕ → ℕ → ℕ → ℕ → List ℕ → ℕ
frame_refusal t overhead flags sm pm counts = first_of (frame_checks t overhead flags sm pm counts)

-- a frame's refusals by the frames that the open second holds
unfoldable pub refusal_by : ℕ → List ℕ → ℕ → ℕ → ℕ → List ℕ → ℕ
refusal_by frames overhead flags sm pm counts =
    first_of
    (check 1 (eqb (length overhead) 64)
    ∷ check 2 (leb flags 3)
    ∷ check 3 (leb sm 8 && leb pm 8 && low_to 6 counts)
    ∷ check 4 (ltb frames 400000)
    ∷ [])

-- of a level that is not provisioned nothing stands
abbrev pub nothing : LevelStands
nothing = record { ssf = false; status = Clear; tim = false; disabled = false; bdi = false; iae = false; biae = false; deg = false }

unfoldable pub level_shown : Level → Bool → LevelStands
level_shown l ssf = cond l.given (level_stands l.state l.options ssf) nothing

abbrev pub shown_rule : Bool → ℕ → Level → LevelStands
shown_rule ssf n l = level_shown l ssf

-- what stands of each of the six
abbrev pub shown_levels : List Level → Bool → List LevelStands
shown_levels ls ssf = each_from (shown_rule ssf) 1 ls

-- A frame: the supervisor's own, then each level by the path's SSF in it and the multiframe after it: "Each level takes path SSF". What stands of each
-- level after it is told.
unfoldable pub framed_of : Tandem → List ℕ → ℕ → ℕ → ℕ → List ℕ → TandemStepped
framed_of t overhead flags sm pm counts =
    let refusal : ℕ = frame_refusal t overhead flags sm pm counts in
    let a : Stepped = step_of t.base overhead flags sm pm in
    let ssf : Bool = a.report.path.ssf in
    let m : Multi = a.supervisor.layers.align.multi in
    let levels : List Level = framed_levels t.levels ssf m overhead counts in
    cond (eqb refusal 0)
    (record {
      refusal = 0;
      report = a.report;
      stands = shown_levels levels ssf;
      tandem = record { base = a.supervisor; flags = flags; levels = levels };
    })
    (record { refusal = refusal; report = no_report; stands = replicate 6 nothing; tandem = t })

-- a mark: the supervisor's own, with its twenty-two figures, and each level's, with its five
unfoldable pub marked_of : Tandem → TandemMarked
marked_of t =
    let a : Marked = mark_of t.base in
    cond (eqb a.refusal 0)
    (record {
      refusal = 0;
      figures = a.figures ++ level_figures t.levels;
      tandem = record { base = a.supervisor; flags = t.flags; levels = marked_levels t.levels };
    })
    (record { refusal = a.refusal; figures = replicate 52 0; tandem = t })

-- the path's SSF as it stands: by what the supervisor holds, and the flags of the last frame
unfoldable pub ssf_now : Supervisor → ℕ → Bool
ssf_now s flags = path_ssf (standing_of s.settings s.layers flags)

-- what is told of a level, as it stands after the last frame and mark; 18 "level not 1 to 6"
unfoldable pub level_report : Tandem → ℕ → LevelReport
level_report t n =
    let l : Level = level_at t.levels n in
    let d : LevelStands = level_shown l (ssf_now t.base t.flags) in
    record { refusal = first_of (check 18 (is_level n) ∷ []); given = l.given; stands = d; actions = level_actions d; causes = level_causes d }

-- 13 "no accepted trace": a level that is not provisioned, or is none of the six, has none
unfoldable pub level_traced : Tandem → ℕ → Traced
level_traced t n =
    let l : Level = level_at t.levels n in
    let refusal : ℕ = first_of (check 13 (l.given && l.state.layer.known) ∷ []) in
    cond (eqb refusal 0)
    (record { refusal = 0; trace = l.state.layer.accepted })
    (record { refusal = refusal; trace = replicate 64 0 })
