use Rattle.std.proofs.Common.{◌≡◌, ◌≤◌, ℕ, length, get_or, eq-eqb, arith}
use Rattle.ranges.specs.Sound.{sound}
use Rattle.ranges.proofs.Below.{bytes_below}
use Rattle.ranges.proofs.Strips.{front_in_lem}
use Rattle.ranges.proofs.is_sound.Goals as goal

pub returns : goal.returns
unfolding sound
returns c =
    let b = c.args.b.now in
    let n : length b ≡ 688 = c.if-b-ne688.false in
    let f : (i : ℕ) → get_or b i 0 ≤ 255 = λ i. omega (arith, c.type_inv.b i) in
    simp (
      eq-eqb (length b) 688 n,
      bytes_below 48 64 b (omega arith) f,
      ← front_in_lem 64 288 112 b (omega arith) (omega arith),
      ← front_in_lem 64 288 400 b (omega arith) (omega arith),
      ← c.is_line_in-line.ensures,
      ← c.is_layer_in-section.ensures,
      ← c.is_layer_in-path.ensures,
    )
