use Rattle.std.proofs.Common.{rules, ◌≡◌}
use Rattle.second.specs.Second.{no_blocks}
use Rattle.place.proofs.Marks.{close_is}
use Rattle.place.proofs.close_at.Goals as goal

pub returns : goal.returns
returns c =
    let n : c.default-state.result ≡ no_blocks = search rules in
    close_is _ _ _ _ _ _ _ _ _ _ _ c.array_in.ensures c.array_in-2.ensures c.front_in-front.ensures c.state_in-state.ensures c.discard-done.ensures
    c.filter_step-front.ensures c.front_bytes.ensures (rw n at c.state_bytes.ensures) c.lay_strip.ensures c.lay_strip-2.ensures
