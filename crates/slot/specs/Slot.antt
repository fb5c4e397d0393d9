-- The pending second in 204 bytes, the slot: the fifty-one figures behind its number, as little-endian words (docs/SUPERVISOR.md has the table). Assumes nothing.
use Rattle.std.specs.Prelude.{Bool, ◌&&◌, List, [], ◌∷◌, ◌++◌, ℕ, eqb, length, replicate}
use Rattle.words.specs.Words.{words_of}
use Rattle.ranges.specs.Sound.{below}

-- of a layer: near-end and far-end blocks, near and far DS, the sum of the far-end violations
abbrev pub five_greatest : List ℕ
five_greatest = 400000 ∷ 400000 ∷ 1 ∷ 1 ∷ 3200000 ∷ []

-- frames and ten heads, then section, path and levels 1 to 6
abbrev pub slot_greatest : List ℕ
slot_greatest =
    replicate 11 400000
    ++ (five_greatest ++ (five_greatest ++ (five_greatest ++ (five_greatest ++ (five_greatest ++ (five_greatest ++ (five_greatest ++ five_greatest)))))))

-- each figure is at most its greatest
abbrev pub figures_ranged : List ℕ → Bool
figures_ranged v = below slot_greatest v

-- The test of 17: the length, and each number within its range. The bytes are bytes too.
unfoldable pub slot_sound : List ℕ → Bool
slot_sound b = eqb (length b) 204 && (below (replicate 204 255) b && figures_ranged (words_of 51 b))
