use Rattle.std.proofs.Common.{rules, ◌≡◌, ◌+◌, get_or, ◌∙◌, sym, take, drop, length, arith, length-set, length-drop}
use Rattle.std.proofs.Math.Seq.{get_or-take, get_or-drop, length-take-le}
use Rattle.answer.proofs.Copies.{grow, whole}
use Rattle.summary.proofs.wide.Goals as goal

pub loop-i-preserved : goal.loop-i-preserved
loop-i-preserved g c =
    let l = c.loop-i in
    let d = drop c.args.at c.args.f.now in
    let x : c.from.result ≡ get_or c.args.f.now (c.args.at + l.i) 0 = search rules in
    let n : length (take g.row.N d) ≡ g.row.N = length-take-le g.row.N d (omega (arith, length-drop c.args.at c.args.f.now)) in record {
      size = length-set _ _ _ ∙ l.invariant.size;
      so_far =
          grow l.x-items (take g.row.N d) l.i _ l.invariant.so_far (omega (arith, l.invariant.size)) (omega (arith, n))
          (x ∙ sym (get_or-take g.row.N d l.i 0 (omega arith) ∙ get_or-drop c.args.at c.args.f.now l.i 0));
    }

pub returns : goal.returns
returns g c =
    let l = c.loop-i in
    let d = drop c.args.at c.args.f.now in
    let n : length (take g.row.N d) ≡ g.row.N = length-take-le g.row.N d (omega (arith, length-drop c.args.at c.args.f.now)) in
    whole l.x-items (take g.row.N d) l.i l.invariant.so_far (omega (arith, l.invariant.size)) (omega (arith, n))
