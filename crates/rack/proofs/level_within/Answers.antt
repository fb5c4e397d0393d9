use Rattle.std.proofs.Common.{rules, ◌≡◌, length, refl}
use borrow.Author.Tests.{eq-eqb}
use Rattle.rack.proofs.Numbers.{level_numbers_is}
use Rattle.rack.proofs.Records.{level_is}
use Rattle.rack.proofs.level_within.Goals as goal

pub returns : goal.returns
returns c =
    let h : length c.args.b.now ≡ 288 = search rules in
    let t = c.trace_at-tim.ensures in
    let w = eq-eqb _ _ h in
    let s = rw c.unwrap.ensures at c.split_first_chunk_mut.ensures.cases in
    let n = rw c.unwrap-w.ensures at c.first_chunk_mut.ensures.cases in
    let k =
    level_numbers_is _ _ _ _ _ _ _ _ c.stat_step-stat.result _ _ _ _ _ _ _ c.args.f
    _ c.args.violations (search rules) c.bei_of-read.ensures refl c.is_mark-mark.ensures refl
    c.filter_at-bdi.ensures c.filter_at-biae.ensures c.lay_stat.ensures c.flags_at.ensures c.frame_at.ensures in
    let d = rw (n.same, s.1) at k in
    let i =
    level_is c.args.b.now _ _ _ _ _ _ _ c.args.ssf _ c.args.m c.args.f c.args.violations h
    (rw c.array_in.ensures at c.stat_in-before.ensures) c.stat_step-stat.ensures c.status_for-status.ensures c.raises_of-raises.ensures
    (rw w at t.answers) (rw w at t.holds) d.0 d.1 in
    (i.0, rw (n.same, s.0, s.1) i.1)
