use Rattle.std.proofs.Common.{rules, ◌≡◌, get_or, refl, length, arith}
use Rattle.summary.specs.Summary.{second_of}
use Rattle.summary.proofs.Heads.{ten_part, five_part}
use Rattle.summary.proofs.second_of.Goals as goal

pub returns : goal.returns
unfolding second_of
returns c =
    let f = c.args.f.now in
    let n : length f ≡ 22 = c.told-f in
    let h = ten_part f c.wide.result 2 (omega arith) c.wide.ensures in
    let s = five_part f c.wide-2.result 12 c.five_by.result c.wide-2.ensures c.five_by.ensures in
    let p = five_part f c.wide-3.result 17 c.five_by-2.result c.wide-3.ensures c.five_by-2.ensures in
    let x : c.from.result ≡ get_or f 0 0 = search rules in
    let y : c.from-2.result ≡ get_or f 1 0 = search rules in
    rw (h, s, p, x, y) refl
