use Rattle.std.proofs.Common.{rules}
use Rattle.image.proofs.Bytes.{held_laid}
use Rattle.image.proofs.store_layer.Goals as goal

pub returns : goal.returns
returns c =
    let a = c.args in
    let t = c.store_traces.ensures in
    record {
      holds =
          held_laid a.p a.l a.t a.at _ _ a.b.now _ _ _ _
          c.front_bytes-front.ensures
          c.state_bytes-state.ensures
          c.lay_bytes.ensures
          c.lay_bytes-2.ensures
          t.holds
          c.lay_bytes-3.ensures;
      long = record { accepted = t.accepted; gathered = t.gathered; previous = t.previous; names = search rules };
    }
