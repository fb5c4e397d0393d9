use Rattle.std.proofs.Common.{◌∙◌, arith, rules}
use lib.Seq.{take_all}
use Rattle.card.proofs.Calls.{step_accepted, step_done, step_refused}
use Rattle.card.proofs.step_with.Goals as goal

pub frame_in-requires-clause-counts_value : goal.frame_in-requires-clause-counts_value
frame_in-requires-clause-counts_value c =
    let a = c.args in
    let s = rw c.unwrap-tandem.ensures at c.first_chunk_mut.ensures.cases in
    let o = rw c.unwrap-overhead.ensures at c.first_chunk.ensures.cases in
    let eo = o.same ∙ take_all 64 a.overhead.now (omega (arith, c.in-Ok.ensures.overhead)) in
    rw (s.same, eo) (step_accepted a.sup.now a.overhead.now a.flags a.sm a.pm a.counts.now c.in-Ok.ensures.sound c.in-Ok.ensures.refusal)

pub returns-in-Ok : goal.returns-in-Ok
returns-in-Ok c =
    let a = c.args in
    let s = rw c.unwrap-tandem.ensures at c.first_chunk_mut.ensures.cases in
    let o = rw c.unwrap-overhead.ensures at c.first_chunk.ensures.cases in
    let eo = o.same ∙ take_all 64 a.overhead.now (omega (arith, c.in-Ok.ensures.overhead)) in
    let f = rw (s.same, eo) at c.frame_in.ensures in
    step_done a.sup.now a.overhead.now a.flags a.sm a.pm a.counts.now c.in-Ok.ensures.sound c.in-Ok.ensures.refusal _ _ f.0 f.1

pub returns-in-Err : goal.returns-in-Err
returns-in-Err c =
    let a = c.args in
    step_refused a.sup.now a.overhead.now a.flags a.sm a.pm a.counts.now _ _ c.in-Err.ensures.refusal c.coded.ensures
