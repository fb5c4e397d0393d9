use Rattle.std.proofs.Common.{◌≡◌, refl, length, arith}
use Rattle.summary.proofs.Heads.{ten_part, five_part}
use Rattle.summary.proofs.summary_by.Goals as goal

pub returns : goal.returns
returns c =
    let v = c.args.v.now in
    let n : length v ≡ 23 = c.told-v in
    let h = ten_part v c.part.result 3 (omega arith) c.part.ensures in
    let s = five_part v c.part-2.result 13 c.five_by.result c.part-2.ensures c.five_by.ensures in
    let p = five_part v c.part-3.result 18 c.five_by-2.result c.part-3.ensures c.five_by-2.ensures in
    rw (h, s, p) refl
