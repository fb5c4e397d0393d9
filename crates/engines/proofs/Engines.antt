-- The step by table is the step by equations. Assumes nothing.
use Prim.Native.Nat.{ℕ}
use mathlib.Core.Path.{◌≡◌, refl, ◌∙◌}
use mathlib.Core.Bool.{Bool, true, false, ◌&&◌}
use mathlib.Core.List.{List}
use lib.Dec.{eqb, leb}
use borrow.Author.Tests.{eqb-true}
use Rattle.answer.proofs.Checks.{passed}
use Rattle.answer.proofs.Cond.{and_left}
use Rattle.causes.specs.Causes.{report_of}
use Rattle.lookup.proofs.Table.{reports_alike}
use Rattle.supervisor.specs.Supervisor.{step_refusal, step_of, stands_after}
use Rattle.tandem.specs.Levels.{low_to}
use Rattle.tandem.specs.Tandem.{frame_checks, frame_refusal, framed_of}
use Rattle.tandem.specs.declared.Tandem.{Tandem}
use Rattle.engines.specs.Engines.{framed_by, framed_by_table, EnginesAlike}

module _ (t : Tandem) (overhead : List ℕ) (flags sm pm : ℕ) (counts : List ℕ) where
  -- line, section and path refuse no frame that is accepted with its six counts
  base_taken : frame_refusal t overhead flags sm pm counts ≡ 0 → step_refusal t.base overhead flags sm pm ≡ 0
  unfolding step_refusal frame_refusal
  base_taken e =
      let a = passed 4 (frame_checks t overhead flags sm pm counts) refl e in
      rw (a.0, a.1.0, and_left (leb sm 8 && leb pm 8) (low_to 6 counts) a.1.1.0, a.1.1.1.0)

  -- by the two values of the test that accepts
  plain_by : (b : Bool) → eqb (frame_refusal t overhead flags sm pm counts) 0 ≡ b → framed_by report_of t overhead flags sm pm counts ≡ framed_of t overhead flags sm pm counts
  unfolding framed_by framed_of step_of
  plain_by true e = let z = eqb-true (frame_refusal t overhead flags sm pm counts) 0 e in rw (z, base_taken z)
  plain_by false e = rw e

  by_table : framed_by_table t overhead flags sm pm counts ≡ framed_by report_of t overhead flags sm pm counts
  unfolding framed_by
  by_table = rw (reports_alike (stands_after t.base overhead flags) sm pm)

  pub engines_alike : EnginesAlike t overhead flags sm pm counts
  engines_alike =
      let plain = plain_by (eqb (frame_refusal t overhead flags sm pm counts) 0) refl in
      record { plain = plain; alike = by_table ∙ plain }
