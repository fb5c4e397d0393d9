use Rattle.image.specs.Image.{section_held, path_held, Sizes}
use Rattle.image.proofs.Bytes.{stored}
use Rattle.image.proofs.lay.Goals as goal

pub returns : goal.returns
returns c =
    let a = c.args in
    let x = c.store_layer.ensures in
    let y = c.store_layer-2.ensures in
    let u : Sizes (section_held a.s) = record { accepted = x.long.accepted; gathered = x.long.gathered; previous = x.long.previous; names = x.long.names } in
    let v : Sizes (path_held a.s) = record { accepted = y.long.accepted; gathered = y.long.gathered; previous = y.long.previous; names = y.long.names } in
    record {
      holds =
          stored a.s _ _ a.b.now _ _ _
          c.section_state-section.ensures
          c.path_state-path.ensures
          c.store_line.ensures
          x.holds
          y.holds;
      long = record { section = u; path = v };
    }
