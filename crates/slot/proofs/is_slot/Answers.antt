use Rattle.std.proofs.Common.{◌≡◌, ◌≤◌, ℕ, length, get_or, eq-eqb, arith}
use Rattle.codec.proofs.Overs.{all_in}
use Rattle.ranges.proofs.Below.{bytes_below}
use Rattle.slot.specs.Slot.{slot_sound}
use Rattle.slot.proofs.is_slot.Goals as goal

pub returns-in-Some : goal.returns-in-Some
unfolding slot_sound
returns-in-Some c =
    let b = c.args.b.now in
    let whole = c.in-Some.ensures.cases in
    let n : length b ≡ 204 = whole.long in
    let f : (i : ℕ) → get_or b i 0 ≤ 255 = λ i. omega (arith, c.type_inv.b i) in
    let g = rw (all_in 204 b n) at (bytes_below 204 0 b (omega arith) f) in
    simp (eq-eqb (length b) 204 n, g, c.are_ranged.ensures, whole.same)
