use Rattle.std.proofs.Common.{arith}
use Rattle.listing.proofs.Places.{fits_not, in_room}
use Rattle.listing.proofs.put_line_at.Goals as goal

pub returns-then-saturating_sub : goal.returns-then-saturating_sub
returns-then-saturating_sub g c =
    in_room c.args.out.now _ c.args.line.now.items _ c.args.at _ g.row.CAP c.as_slice.ensures.value c.as_slice.ensures.fits (omega (arith, c.saturating_sub.ensures)) c.put_text_at.ensures

pub returns : goal.returns
returns g c =
    let z = fits_not c.args.out.now c.args.line.now.items c.args.at g.row.CAP (omega (arith, c.saturating_sub.ensures)) in
    (z.0, omega arith, z.1)
