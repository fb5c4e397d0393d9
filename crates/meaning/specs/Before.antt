-- TIMActDis as it was before document 02, K5: "0 acts, 1 disabled, 2 default; the default is 0" (document 01). Provisioning by that meaning, from C and by a trace's
-- records; its refusals are those of today, and nothing else of a call goes by the byte. Assumes nothing.
use Rattle.std.specs.Prelude.{Bool, false, cond, List, ℕ, eqb, get_or, drop, take}
use Rattle.settings.specs.Settings.{settings_refusal}
use Rattle.settings.specs.declared.Request.{Request}
use Rattle.settings.specs.declared.Options.{Options}
use Rattle.settings.specs.declared.Settings.{Settings}
use Rattle.supervisor.specs.Supervisor.{fresh_of, blank_supervisor}
use Rattle.supervisor.specs.Supervisor.{Provisioned}
use Rattle.tandem.specs.Levels.{placed_at, given_level}
use Rattle.tandem.specs.Tandem.{fresh_tandem, give_refusal, record_refusal}
use Rattle.tandem.specs.declared.Tandem.{Tandem}
use Rattle.tandem.specs.Tandem.{Given}
use Rattle.late.specs.Late.{fresh_late}
use Rattle.slots.specs.Image.{late_bytes}
use Rattle.card.specs.Calls.{unless, Provision, tandem_of, late_with, fresh_refusal, level_refusal}
use Rattle.calls.specs.History.{Act, otn_fresh, otn_level, otn_step, otn_mark, otn_pending, otn_trace, otn_level_report, otn_level_trace, act_bytes}
use Rattle.record.specs.declared.Record.{Record}
use Rattle.record.specs.declared.Record.TheVariants.{Frame, Mark, Provisioning, Level, LevelFrame, Refused}
use Rattle.record.specs.Record.{record_of, body_of, section_in, path_in, level_in}
use Rattle.trace.specs.Scan.{refused_of, answered_of, beside, after_giving, applied_of}
use Rattle.trace.specs.declared.State.{State}
use Rattle.trace.specs.Scan.{Taken}

-- "2 default; the default is 0"
abbrev pub disabled_before : ℕ → Bool
disabled_before dis = eqb dis 1

-- what was kept of an accepted request, and of one for section and path
abbrev pub options_before : Request → List ℕ → Options
options_before r names = record { thr = r.thr; degm = r.degm; mode = r.mode; disabled = disabled_before r.dis; names = names }

abbrev pub settings_before : Provision → Settings
settings_before p = record { k = p.k; section = options_before p.section p.snames; path = options_before p.path p.pnames }

-- a provisioning, and that of a level where its refusal is known
unfoldable pub provision_before : Provision → Provisioned
provision_before p =
    let refusal : ℕ = settings_refusal p.k p.section p.path p.snames p.pnames in
    cond (eqb refusal 0)
    (record { refusal = 0; supervisor = fresh_of (settings_before p) })
    (record { refusal = refusal; supervisor = blank_supervisor })

unfoldable pub given_before : ℕ → Tandem → ℕ → Request → List ℕ → Given
given_before refusal t n r names =
    cond (eqb refusal 0)
    (record { refusal = 0; tandem = record { base = t.base; flags = t.flags; levels = placed_at t.levels n (given_level (options_before r names)) } })
    (record { refusal = refusal; tandem = t })

-- From C: what the bytes hold after otn_fresh and otn_level; every other act leaves them as it does today.
unfoldable pub fresh_before : List ℕ → Provision → List ℕ
fresh_before sup p = unless (fresh_refusal sup p) (late_bytes (fresh_late (fresh_tandem (fresh_of (settings_before p))))) sup

unfoldable pub level_before : List ℕ → ℕ → Request → List ℕ → List ℕ
level_before sup n r names =
    let t : Tandem = tandem_of sup in
    unless (level_refusal sup n r names) (late_with sup (given_before (give_refusal t n r names) t n r names).tandem) sup

unfoldable pub act_before : List ℕ → Act → List ℕ
act_before sup (otn_fresh p) = fresh_before sup p
act_before sup (otn_level n r names) = level_before sup n r names
act_before sup (otn_step f counts) = act_bytes sup (otn_step f counts)
act_before sup (otn_mark out) = act_bytes sup (otn_mark out)
act_before sup (otn_pending out) = act_bytes sup (otn_pending out)
act_before sup (otn_trace layer out) = act_bytes sup (otn_trace layer out)
act_before sup (otn_level_report n) = act_bytes sup (otn_level_report n)
act_before sup (otn_level_trace n out) = act_bytes sup (otn_level_trace n out)

-- In a trace: kinds 3 and 4 taken; every other record is taken as it is today.
abbrev pub provision_asked : List ℕ → Provision
provision_asked body = record { k = get_or body 0 0; section = section_in body; path = path_in body; snames = take 32 (drop 15 body); pnames = take 32 (drop 47 body) }

unfoldable pub provisioned_before : State → List ℕ → Taken
provisioned_before st body =
    let a : Provisioned = provision_before (provision_asked body) in
    cond st.begun (refused_of st 16) (answered_of st a.refusal false (after_giving st (fresh_late (fresh_tandem a.supervisor))))

unfoldable pub levelled_before : State → List ℕ → Taken
levelled_before st body =
    let t : Tandem = st.sup.tandem in
    let names : List ℕ = take 32 (drop 8 body) in
    let a : Given = given_before (record_refusal t (get_or body 0 0) (level_in body) names) t (get_or body 0 0) (level_in body) names in
    cond st.begun (answered_of st a.refusal false (after_giving st (beside st.sup a.tandem))) (refused_of st 16)

abbrev pub applied_before : State → Record → List ℕ → Taken
applied_before st Frame body = applied_of st Frame body
applied_before st Mark body = applied_of st Mark body
applied_before st Provisioning body = provisioned_before st body
applied_before st Level body = levelled_before st body
applied_before st LevelFrame body = applied_of st LevelFrame body
applied_before st (Refused n) body = applied_of st (Refused n) body

unfoldable pub taken_before : State → List ℕ → Taken
taken_before st ys = applied_before st (record_of ys) (body_of (record_of ys) ys)
