use Rattle.std.proofs.Common.{rules, ◌≡◌, length}
use borrow.Author.Tests.{eq-eqb}
use Rattle.place.proofs.Records.{section_is}
use Rattle.place.proofs.section_within.Goals as goal

pub returns : goal.returns
returns c =
    let a = c.args in
    let t = c.trace_at-tim.ensures in
    let h : length a.b.now ≡ 288 = search rules in
    let w = eq-eqb _ _ h in
    let s = rw c.unwrap.ensures at c.split_first_chunk_mut.ensures.cases in
    let n = rw c.unwrap-numbers.ensures at c.first_chunk_mut.ensures.cases in
    let d = c.section_numbers-d.ensures in
    let i =
    section_is a.b.now _ _ _ _ a.ssf a.m a.f a.sm h (rw w at t.answers) (rw w at t.holds)
    (rw (n.same, s.1) at d.0) (rw (n.same, s.1) at d.1) in
    (i.0, rw (s.0, s.1) i.1)
