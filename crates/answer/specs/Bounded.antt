-- The sum of far-end violations against the far-end errored blocks (document 02, K7). Assumes nothing.
use Rattle.std.specs.Prelude.{ℕ, ◌*◌, ◌≤◌}

-- "In each reported second the sum is at least the far blocks and at most eight times them."
abbrev pub Bounded : ℕ → ℕ → Type 0
Bounded far sum = (far ≤ sum) × (sum ≤ 8 * far)
