use Rattle.std.proofs.Common.{◌+◌, ◌<◌, length, arith, refl}
use Rattle.listing.proofs.Places.{fits, text_fits_not, copied}
use Rattle.listing.proofs.put_text_at.Goals as goal
use Rattle.listing.proofs.put_text_at.Goals.{else-src-out-via-then-src-out+else-at-out, else-src-out-via-else-src-out}

pub returns-then-at-out : goal.returns-then-at-out
returns-then-at-out c =
    let d = c.args.out.now in
    let v = c.args.src.now in
    fits d _ v c.args.at _ (length v) (omega arith) refl (copied d v _ c.args.at _ c.copy_from_slice.ensures.after (omega arith))

pub returns : goal.returns
returns c =
    let beyond : length c.args.out.now < c.args.at + length c.args.src.now =
    elim c.else-src-out.branch [ else-src-out-via-then-src-out+else-at-out w ↦ omega arith | else-src-out-via-else-src-out w ↦ omega arith ] in
    text_fits_not c.args.out.now c.args.src.now c.args.at beyond
