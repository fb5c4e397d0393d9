use mathlib.Core.Path.{◌∙◌}
use Rattle.slots.proofs.Trip.{tandem_sound_lem}
use Rattle.card.proofs.Late.{first_long, k_first, number_first, marked_late}
use Rattle.card.proofs.mark_late.Goals as goal

pub close_in-bytes-requires-clause-sup_value : goal.close_in-bytes-requires-clause-sup_value
close_in-bytes-requires-clause-sup_value c =
    let l = c.args.sup.now in
    let t = c.requires.sup_value in
    tandem_sound_lem l t

pub close_in-bytes-requires-clause-k_value : goal.close_in-bytes-requires-clause-k_value
close_in-bytes-requires-clause-k_value c =
    let l = c.args.sup.now in
    let t = c.requires.sup_value in
    k_first l _ c.requires.k_value

pub close_in-bytes-requires-clause-number_value : goal.close_in-bytes-requires-clause-number_value
close_in-bytes-requires-clause-number_value c =
    let l = c.args.sup.now in
    let t = c.requires.sup_value in
    number_first l _ c.requires.number_value

pub returns : goal.returns
returns c =
    let l = c.args.sup.now in
    let t = c.requires.sup_value in
    let f = c.close_in-bytes.ensures in
    marked_late l t c.args.number _ _ _ c.requires.number_value c.requires.number_bound (c.close_in-bytes.auto.sup ∙ first_long l t) f.0 f.1 c.pour.ensures
