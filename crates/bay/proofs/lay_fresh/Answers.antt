use Rattle.std.proofs.Common.{rules}
use Rattle.bay.proofs.Fresh.{fresh_laid}
use Rattle.bay.proofs.lay_fresh.Goals as goal

pub returns : goal.returns
returns c =
    let a = c.args in
    fresh_laid a.p (search (rules, c.well_formed)) _ _ _ _ _ _ _ _ c.requires c.front_bytes-front.ensures c.lay_bytes.ensures c.lay_bytes-2.ensures c.lay_bytes-3.ensures c.lay_bytes-4.ensures c.lay_bytes-5.ensures c.lay_bytes-6.ensures
