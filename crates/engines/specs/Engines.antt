-- Two engines of the step (document 02, K4): "Keep the equations as the plain engine. Prove .. that both engines answer alike for every supervisor and frame."
-- The programs step by the equations, the calls from C by the table. Assumes nothing.
use Rattle.std.specs.Prelude.{ℕ, ◌≡◌, Bool, cond, List, eqb, replicate}
use Rattle.causes.specs.Causes.{report_of, no_report}
use Rattle.causes.specs.declared.Standing.{Standing}
use Rattle.causes.specs.declared.Report.{Report}
use Rattle.lookup.specs.Lookup.{report_by_table}
use Rattle.supervisor.specs.Supervisor.{stands_after, frame_of}
use Rattle.supervisor.specs.declared.Supervisor.{Supervisor}
use Rattle.tandem.specs.Levels.{framed_levels}
use Rattle.tandem.specs.Tandem.{TandemStepped, frame_refusal, framed_of, nothing, shown_levels}
use Rattle.tandem.specs.declared.Level.{Level}
use Rattle.tandem.specs.declared.Tandem.{Tandem}

-- an engine: the report of what stands, with a frame's violation counts of section and path
abbrev pub Engine : Type 0
Engine = Standing → ℕ → ℕ → Report

-- A frame by an engine: refused as it is, or reported by the engine, each level by the path's SSF in that report.
unfoldable pub framed_by : Engine → Tandem → List ℕ → ℕ → ℕ → ℕ → List ℕ → TandemStepped
framed_by engine t overhead flags sm pm counts =
    let refusal : ℕ = frame_refusal t overhead flags sm pm counts in
    let report : Report = engine (stands_after t.base overhead flags) sm pm in
    let after : Supervisor = frame_of t.base overhead flags sm pm in
    let ssf : Bool = report.path.ssf in
    let levels : List Level = framed_levels t.levels ssf after.layers.align.multi overhead counts in
    cond (eqb refusal 0)
    (record {
      refusal = 0;
      report = report;
      stands = shown_levels levels ssf;
      tandem = record { base = after; flags = flags; levels = levels };
    })
    (record { refusal = refusal; report = no_report; stands = replicate 6 nothing; tandem = t })

-- by the table
abbrev pub framed_by_table : Tandem → List ℕ → ℕ → ℕ → ℕ → List ℕ → TandemStepped
framed_by_table t overhead flags sm pm counts = framed_by report_by_table t overhead flags sm pm counts

-- For every supervisor and frame, in its ranges or not, accepted or refused: the step by the table has the refusal, the report, what stands of the levels and the
-- supervisor after it of the step by equations, which is that of `tandem`.
pub record EnginesAlike (t : Tandem) (overhead : List ℕ) (flags sm pm : ℕ) (counts : List ℕ) : Type 0 where
  pub plain : framed_by report_of t overhead flags sm pm counts ≡ framed_of t overhead flags sm pm counts
  pub alike : framed_by_table t overhead flags sm pm counts ≡ framed_of t overhead flags sm pm counts

abbrev pub EveryEnginesAlike : Type 0
EveryEnginesAlike = (t : Tandem) (overhead : List ℕ) (flags sm pm : ℕ) (counts : List ℕ) → EnginesAlike t overhead flags sm pm counts
