use Rattle.std.proofs.Common.{rules, refl}
use Rattle.place.proofs.Numbers.{section_numbers_is}
use Rattle.place.proofs.section_numbers.Goals as goal

pub returns : goal.returns
returns c =
    let a = c.args in
    let n = rw c.unwrap-filters.ensures at c.first_chunk_mut.ensures.cases in
    let d = c.filters_at-d.ensures in
    section_numbers_is a.w.now _ _ _ _ _ _ a.ssf a.tim a.f _ a.sm (search rules) c.bei_of-read.ensures refl refl
    (rw n.same at d.0) (rw n.same at d.1) c.flags_at.ensures c.frame_at.ensures
