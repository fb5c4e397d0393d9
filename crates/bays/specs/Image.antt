-- The supervisor with six tandem levels as 2448 bytes: the 688 of line, section and path as they are without levels, then the bay, 1760 bytes: a strip of
-- 32 (the flags of the last accepted frame, whether each level is provisioned, spare bytes) and a record of 288 for each level, 1 to 6. Assumes nothing.
use Rattle.std.specs.Prelude.{Bool, ◌&&◌, List, [], ◌∷◌, ◌++◌, map, ℕ, eqb, length, get_or, take, drop, replicate}
use Rattle.answer.specs.Bits.{flag}
use Rattle.answer.specs.Each.{each_from}
use Rattle.ranges.specs.Sound.{sound}
use Rattle.numbers.specs.Numbers.{on}
use Rattle.numbers.specs.Held.{Held, held_in, options_from}
use Rattle.image.specs.Image.{bytes_of, load_of}
use Rattle.rack.specs.Rack.{level_from, level_second_from}
use Rattle.racks.specs.Racks.{level_bytes}
use Rattle.tandem.specs.declared.Level.{Level}
use Rattle.tandem.specs.declared.Tandem.{Tandem}
use Rattle.bay.specs.Bay.{records_of, chained, bay_sound}

-- The image. A level that is not provisioned has a record too: its blanks.

abbrev pub level_bytes_of : Level → List ℕ
level_bytes_of l = level_bytes l.options l.state l.second

-- whether each level is provisioned, a byte for each
abbrev pub given_bytes : List Level → List ℕ
given_bytes [] = []
given_bytes (l ∷ ls) = flag l.given ∷ given_bytes ls

abbrev pub strip_bytes : ℕ → List Level → List ℕ
strip_bytes flags ls = flags ∷ (given_bytes ls ++ replicate 25 0)

unfoldable pub bay_bytes : ℕ → List Level → List ℕ
bay_bytes flags ls = strip_bytes flags ls ++ chained (map level_bytes_of ls)

unfoldable pub tandem_bytes : Tandem → List ℕ
tandem_bytes t = bytes_of t.base ++ bay_bytes t.flags t.levels

-- What stands in bytes: level n by its record r and by byte n of the bay, the six levels, and the supervisor.

abbrev pub level_held_in : Bool → Held → Level
level_held_in given h = record { given = given; options = options_from h; state = level_from h; second = level_second_from h }

abbrev pub level_in : List ℕ → ℕ → List ℕ → Level
level_in b n r = level_held_in (on (get_or b n 0)) (held_in r)

unfoldable pub levels_in : List ℕ → List Level
levels_in b = each_from (level_in b) 1 (records_of b)

unfoldable pub tandem_from : List ℕ → Tandem
tandem_from l = record { base = load_of (take 688 l); flags = get_or (drop 688 l) 0 0; levels = levels_in (drop 688 l) }

-- refusal 17: "handed-in supervisor has a wrong length or a number beyond its range", a level provisioned or not
unfoldable pub tandem_sound : List ℕ → Bool
tandem_sound l = eqb (length l) 2448 && (sound (take 688 l) && bay_sound (drop 688 l))
