-- Byte 2 in TIMActDis (document 02, K5): "Explicit 0 and 1 answer as before, and that is to be proved." Assumes nothing.
use Rattle.std.specs.Prelude.{◌≡◌, cond, List, [], ◌∷◌, ℕ, ◌≤◌, eqb}
use Rattle.settings.specs.Settings.{options_of}
use Rattle.settings.specs.declared.Request.{Request}
use Rattle.supervisor.specs.Supervisor.{provision_of}
use Rattle.tandem.specs.Tandem.{recorded_of}
use Rattle.tandem.specs.declared.Tandem.{Tandem}
use Rattle.calls.specs.History.{Act, otn_fresh, otn_level, otn_step, otn_mark, otn_pending, otn_trace, otn_level_report, otn_level_trace, act_answer, act_fills, act_bytes, Lent, own, other, Use}
use Rattle.record.specs.declared.Record.{Record}
use Rattle.record.specs.declared.Record.TheVariants.{Frame, Mark, Provisioning, Level, LevelFrame, Refused}
use Rattle.record.specs.Record.{record_of, body_of, section_in, path_in, level_in}
use Rattle.trace.specs.Scan.{taken_of}
use Rattle.trace.specs.declared.State.{State}
use Rattle.trace.specs.Scan.{Taken}
use Rattle.meaning.specs.Before.{options_before, act_before, taken_before}

-- What C gets back of a use: the answer, and what the buffer and the bytes that it lent hold.
pub record Told : Type 0 where
  pub answer : ℕ
  pub buffer : List ℕ
  pub bytes : List ℕ

abbrev pub lent_to : List ℕ → Lent → List ℕ
lent_to sup own = sup
lent_to sup (other l) = l

abbrev pub kept_of : List ℕ → Lent → List ℕ → List ℕ
kept_of sup own after = after
kept_of sup (other l) after = sup

-- all that C gets back in a list of uses, by a meaning: what an act leaves of bytes
unfoldable pub told_by : (List ℕ → Act → List ℕ) → List ℕ → List Use → List Told
told_by leaves sup [] = []
told_by leaves sup (u ∷ us) =
    let l : List ℕ = lent_to sup u.lent in
    let after : List ℕ = leaves l u.act in
    record { answer = act_answer l u.act; buffer = act_fills l u.act; bytes = after } ∷ told_by leaves (kept_of sup u.lent after) us

-- all that the records of a trace are answered, by a meaning: how a record is taken
unfoldable pub takens_by : (State → List ℕ → Taken) → State → List (List ℕ) → List Taken
takens_by takes st [] = []
takens_by takes st (ys ∷ rs) = takes st ys ∷ takens_by takes (takes st ys).state rs

-- "Explicit 0 and 1": no byte of an act, of a list of uses, of a record and of a list of records is 2
abbrev pub Explicit : Act → Type 0
Explicit (otn_fresh p) = (p.section.dis ≤ 1) × (p.path.dis ≤ 1)
Explicit (otn_level n r names) = r.dis ≤ 1
Explicit (otn_step f counts) = Unit {0}
Explicit (otn_mark out) = Unit {0}
Explicit (otn_pending out) = Unit {0}
Explicit (otn_trace layer out) = Unit {0}
Explicit (otn_level_report n) = Unit {0}
Explicit (otn_level_trace n out) = Unit {0}

abbrev pub AllExplicit : List Use → Type 0
AllExplicit [] = Unit {0}
AllExplicit (u ∷ us) = Explicit u.act × AllExplicit us

abbrev pub ExplicitIn : Record → List ℕ → Type 0
ExplicitIn Frame body = Unit {0}
ExplicitIn Mark body = Unit {0}
ExplicitIn Provisioning body = ((section_in body).dis ≤ 1) × ((path_in body).dis ≤ 1)
ExplicitIn Level body = (level_in body).dis ≤ 1
ExplicitIn LevelFrame body = Unit {0}
ExplicitIn (Refused n) body = Unit {0}

abbrev pub RecordsExplicit : List (List ℕ) → Type 0
RecordsExplicit [] = Unit {0}
RecordsExplicit (ys ∷ rs) = ExplicitIn (record_of ys) (body_of (record_of ys) ys) × RecordsExplicit rs

-- Requests whose bytes are 0 or 1 are provisioned as before: so every answer of every list of calls from C, on any bytes, accepted or refused, with every
-- buffer and every byte of every supervisor, is the same, and so is every record of every trace.
pub record ExplicitSame : Type 0 where
  pub kept : (r : Request) (names : List ℕ) → r.dis ≤ 1 → options_of r names ≡ options_before r names
  pub calls : (sup : List ℕ) (uses : List Use) → AllExplicit uses → told_by act_bytes sup uses ≡ told_by act_before sup uses
  pub records : (st : State) (rs : List (List ℕ)) → RecordsExplicit rs → takens_by taken_of st rs ≡ takens_by taken_before st rs

-- a request with 1 where it has 2, and so in an act and in uses
abbrev pub one_for : Request → Request
one_for r = record { thr = r.thr; degm = r.degm; mode = r.mode; dis = cond (eqb r.dis 2) 1 r.dis }

abbrev pub one_in : Act → Act
one_in (otn_fresh p) = otn_fresh (record { k = p.k; section = one_for p.section; path = one_for p.path; snames = p.snames; pnames = p.pnames })
one_in (otn_level n r names) = otn_level n (one_for r) names
one_in (otn_step f counts) = otn_step f counts
one_in (otn_mark out) = otn_mark out
one_in (otn_pending out) = otn_pending out
one_in (otn_trace layer out) = otn_trace layer out
one_in (otn_level_report n) = otn_level_report n
one_in (otn_level_trace n out) = otn_level_trace n out

abbrev pub ones_in : List Use → List Use
ones_in [] = []
ones_in (u ∷ us) = record { lent = u.lent; act = one_in u.act } ∷ ones_in us

-- "Byte 2 (default) in TIMActDis shall mean disabled": 2 is 1, wherever it stands, in what is kept of a request, in a record of kind 3 or 4, and in any list of calls from C
pub record TwoIsOne : Type 0 where
  pub kept : (r : Request) (names : List ℕ) → options_of r names ≡ options_of (one_for r) names
  pub provisions : (k : ℕ) (section path : Request) (snames pnames : List ℕ)
      → provision_of k section path snames pnames ≡ provision_of k (one_for section) (one_for path) snames pnames
  pub records : (t : Tandem) (n : ℕ) (r : Request) (names : List ℕ) → recorded_of t n r names ≡ recorded_of t n (one_for r) names
  pub calls : (sup : List ℕ) (uses : List Use) → told_by act_bytes sup uses ≡ told_by act_bytes sup (ones_in uses)
