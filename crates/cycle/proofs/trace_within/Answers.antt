use Rattle.std.proofs.Common.{rules}
use Rattle.cycle.specs.Cycle.{multi_by}
use Rattle.cycle.proofs.Traces.{trace_is}
use Rattle.cycle.proofs.trace_within.Goals as goal

pub returns : goal.returns
returns c =
    let a = c.args in
    let f = rw c.unwrap.ensures at c.split_first_chunk_mut.ensures.cases in
    let s = rw c.unwrap-2.ensures at c.split_first_chunk_mut-2.ensures.cases in
    let x = rw c.unwrap-3.ensures at c.split_first_chunk_mut-3.ensures.cases in
    let y = rw c.unwrap-4.ensures at c.split_first_chunk_mut-4.ensures.cases in
    let z = rw c.unwrap-5.ensures at c.split_first_chunk_mut-5.ensures.cases in
    let n = rw c.unwrap-names.ensures at c.first_chunk.ensures.cases in
    let i =
    trace_is a.b.now _ _ _ _ _ _ _ _ _ _ _ (search rules) f.0 f.1 s.0 s.1 x.0 x.1 y.0 y.1 z.0 z.1 n.same
    a.forget (multi_by a.inmulti a.number) a.tti _ _ _ _ _ _ _ _
    c.from.ensures c.step.ensures.cycle c.step.ensures.accepted c.step.ensures.gathered c.step.ensures.previous
    c.from-2.ensures c.from-3.ensures c.tim_in.ensures in
    (i.0, i.1)
