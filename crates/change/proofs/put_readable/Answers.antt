use Rattle.std.proofs.Common.{arith}
use Rattle.change.proofs.Readable.{readable_more}
use Rattle.change.proofs.put_readable.Goals as goal

pub loop-b-preserved : goal.loop-b-preserved
loop-b-preserved g c = record {
  so_far = rw (c.push.ensures.items, c.loop-b.invariant.so_far, c.printable.ensures) (readable_more c.args.out.now.items c.args.trace.now c.loop-b.b-index (omega (arith, c.loop-b-test.true)));
  bound = omega (arith, c.loop-b.invariant.bound, c.push.ensures.len);
}
