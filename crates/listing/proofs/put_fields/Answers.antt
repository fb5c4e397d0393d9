use Rattle.std.proofs.Common.{arith}
use Rattle.listing.proofs.Texts.{fields_more}
use Rattle.listing.proofs.put_fields.Goals as goal

pub loop-n-preserved : goal.loop-n-preserved
loop-n-preserved g c = record {
  so_far = rw (c.put_field.ensures.items, c.loop-n.invariant.so_far) (fields_more c.args.out.now.items c.args.ns.now c.loop-n.n-index c.loop-n-test.true);
  bound = omega (arith, c.loop-n.invariant.bound, c.put_field.ensures.bound);
}
