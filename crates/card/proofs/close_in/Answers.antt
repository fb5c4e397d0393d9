use Rattle.bays.proofs.Trip.{first_sound}
use Rattle.card.proofs.Halves.{close_is, k_here, number_here}
use Rattle.card.proofs.close_in.Goals as goal

pub mark_in-base-requires-clause-sup_value : goal.mark_in-base-requires-clause-sup_value
mark_in-base-requires-clause-sup_value c =
    let n = c.requires.sup_len in
    let l = c.args.sup.now in
    first_sound l c.requires.sup_value

pub mark_in-base-requires-clause-k_value : goal.mark_in-base-requires-clause-k_value
mark_in-base-requires-clause-k_value c =
    let n = c.requires.sup_len in
    let l = c.args.sup.now in
    k_here l _ c.requires.k_value

pub mark_in-base-requires-clause-number_value : goal.mark_in-base-requires-clause-number_value
mark_in-base-requires-clause-number_value c =
    let n = c.requires.sup_len in
    let l = c.args.sup.now in
    number_here l _ c.requires.number_value

pub returns : goal.returns
returns c =
    let f = c.mark_in-base.ensures in
    close_is c.args.sup.now c.requires.sup_value c.args.number _ _ _ _ _ c.requires.number_value c.requires.number_bound f.0 f.1 c.mark_at-levels.ensures c.record_of.ensures
