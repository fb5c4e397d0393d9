use Rattle.std.proofs.Common.{rules, ◌≡◌}
use Rattle.pack.proofs.Calls.{summarized, no_second, too_short}
use Rattle.pack.proofs.summarize.Goals as goal

pub returns-then-good : goal.returns-then-good
returns-then-good c = summarized c.args.second.now c.args.out.now _ _ _ c.if-second-ge88.true c.words_in-f.ensures c.second_of-s.ensures c.valid-good.ensures _ c.if-good.true c.put.ensures

pub returns-then-second-ge88 : goal.returns-then-second-ge88
returns-then-second-ge88 c =
    let e : c.from.result ≡ 26 = search rules in
    rw e (no_second c.args.second.now c.args.out.now _ _ _ c.if-second-ge88.true c.words_in-f.ensures c.second_of-s.ensures c.valid-good.ensures c.if-good.false)

pub returns : goal.returns
returns c =
    let e : c.from-2.result ≡ 26 = search rules in
    rw e (too_short c.args.second.now c.args.out.now c.if-second-ge88.false)
