use mathlib.Core.Path.{ap}
use Rattle.alignment.specs.declared.Alignment.{Alignment}
use Rattle.place.proofs.line_at.Goals as goal

pub returns : goal.returns
returns c =
    let w = c.array_in.ensures in
    let v = c.array_in-2.ensures in
    let h = c.head_in-head.ensures in
    let a = c.align_in-before.ensures in
    let n = rw (h, w) at c.frames_of-n.ensures in
    let s = rw (a, v, n) at c.align_step-after.ensures in
    record {
      line = rw (s, n) at c.line_of.ensures;
      multi = ap (λ (x : Alignment). x.multi) s;
      holds = rw (c.align_bytes-x.ensures, s) at c.lay_bytes.ensures;
    }
