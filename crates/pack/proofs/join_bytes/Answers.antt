use Rattle.std.proofs.Common.{rules, ◌≡◌}
use Rattle.pack.proofs.Calls.{joined, refused, wrong_length}
use Rattle.pack.proofs.join_bytes.Goals as goal

pub returns-in-Ok : goal.returns-in-Ok
returns-in-Ok c = joined c.args.earlier.now c.args.later.now c.args.out.now _ _ _ _ c.if-earlier-later.true c.numbers_in-x.ensures c.numbers_in-y.ensures c.summary_by-a.ensures c.summary_by-b.ensures _ _ c.in-Ok.ensures.refusal c.in-Ok.ensures.both c.put.ensures

pub returns-in-Err : goal.returns-in-Err
returns-in-Err c = refused c.args.earlier.now c.args.later.now c.args.out.now _ _ _ _ c.if-earlier-later.true c.numbers_in-x.ensures c.numbers_in-y.ensures c.summary_by-a.ensures c.summary_by-b.ensures c.in-Err.refusal _ c.in-Err.ensures.refusal (search rules)

pub returns : goal.returns
returns c =
    let e : c.from-2.result ≡ 26 = search rules in
    rw e (wrong_length c.args.earlier.now c.args.later.now c.args.out.now c.if-earlier-later.false)
