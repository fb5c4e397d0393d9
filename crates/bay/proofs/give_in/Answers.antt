use Rattle.std.proofs.Common.{rules}
use mathlib.Core.Path.{refl, ◌∙◌}
use lib.ListN.{length-set}
use native.Mathlib.Omega.{arith}
use Rattle.bay.proofs.Given.{give_is}
use Rattle.bay.proofs.give_in.Goals as goal

pub returns : goal.returns
returns c =
    give_is c.args.b.now _ _ c.args.n c.args.p.now (omega arith) (omega arith) (length-set c.args.b.now c.args.n 1 ∙ (search rules)) refl c.lay_fresh.ensures
