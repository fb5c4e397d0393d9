-- The supervisor with its pending second as 2652 bytes: the 2448 of the supervisor with levels as they are without one, then the slot, 204 bytes: the pending
-- second's figures behind its number, as words. Assumes nothing.
use Rattle.std.specs.Prelude.{Bool, ◌&&◌, List, ◌++◌, ℕ, eqb, length, take, drop}
use Rattle.words.specs.Words.{flat, words_of}
use Rattle.slot.specs.Slot.{slot_sound}
use Rattle.late.specs.declared.Late.{Late}
use Rattle.bays.specs.Image.{tandem_bytes, tandem_from, tandem_sound}

unfoldable pub late_bytes : Late → List ℕ
late_bytes s = tandem_bytes s.tandem ++ flat s.pending

unfoldable pub late_from : List ℕ → Late
late_from l = record { tandem = tandem_from (take 2448 l); pending = words_of 51 (drop 2448 l) }

-- refusal 17: "handed-in supervisor has a wrong length or a number beyond its range", the pending second's too
unfoldable pub late_sound : List ℕ → Bool
late_sound l = eqb (length l) 2652 && (tandem_sound (take 2448 l) && slot_sound (drop 2448 l))
