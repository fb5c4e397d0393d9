use Rattle.std.proofs.Common.{◌≡◌, arith}
use Rattle.codec.specs.Over.{bytes_in}
use Rattle.codec.proofs.Overs.{all_in}
use Rattle.settings.proofs.Ranges.{provisioned_in}
use Rattle.card.proofs.fresh.Goals as goal

pub returns : goal.returns
returns c =
    let r = provisioned_in _ _ _ _ _ c.requires in
    let s : bytes_in 32 0 c.args.snames.now ≡ c.args.snames.now = all_in 32 _ r.section.names in
    let p : bytes_in 32 0 c.args.pnames.now ≡ c.args.pnames.now = all_in 32 _ r.path.names in
    grind (arith, s, p)
