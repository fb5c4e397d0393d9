use Rattle.std.proofs.Common.{rules, refl}
use Rattle.place.proofs.Numbers.{path_numbers_is}
use Rattle.place.proofs.path_numbers.Goals as goal

pub returns : goal.returns
returns c =
    let a = c.args in
    path_numbers_is a.w.now _ _ _ _ _ a.t _ _ a.forget a.stops a.tim a.f _ a.pm (search rules) c.path_bei-read.ensures refl refl c.filter_at-bdi.ensures c.lay_stat.ensures c.flags_at.ensures c.frame_at.ensures
