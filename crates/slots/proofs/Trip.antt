-- The image with the pending second: its test, and the round trip both ways. Assumes nothing.
use Prim.Native.Nat.{ℕ}
use mathlib.Core.Path.{◌≡◌, ◌∙◌}
use mathlib.Core.Bool.{true, ◌&&◌}
use mathlib.Core.List.{List}
use lib.Dec.{eqb}
use lib.ListN.{length, take, drop, length-append, take-append-drop}
use lib.Seq.{take_at, drop_at}
use borrow.Author.Tests.{eq-eqb, eqb-true}
use Rattle.answer.proofs.Cond.{and_left, and_right}
use Rattle.words.specs.Words.{flat}
use Rattle.numbers.proofs.Strips.{both}
use Rattle.slot.specs.Slot.{slot_sound}
use Rattle.late.specs.declared.Late.{Late}
use Rattle.bays.specs.Image.{tandem_bytes, tandem_sound}
use Rattle.bays.proofs.Trip.{same_tandem, tandem_trip}
use Rattle.slots.specs.Image.{late_bytes, late_from, late_sound}
use Rattle.slots.specs.Ranges.{LateIn, SameLate, LateTrip}
use Rattle.slots.proofs.Figures.{slot_long, words_are, slot_tested, slot_ranged, slot_stays}

module _ (s : Late) (i : LateIn s) where
  tandem_long : length (tandem_bytes s.tandem) ≡ 2448
  tandem_long = tandem_trip.long s.tandem i.tandem

  late_long : length (late_bytes s) ≡ 2652
  unfolding late_bytes
  late_long = simp (length-append, tandem_long, slot_long s.pending i.pending)

  first_of : take 2448 (late_bytes s) ≡ tandem_bytes s.tandem
  unfolding late_bytes
  first_of = take_at (tandem_bytes s.tandem) (flat s.pending) 2448 tandem_long

  last_of : drop 2448 (late_bytes s) ≡ flat s.pending
  unfolding late_bytes
  last_of = drop_at (tandem_bytes s.tandem) (flat s.pending) 2448 tandem_long

  late_tested : late_sound (late_bytes s) ≡ true
  unfolding late_sound
  late_tested =
      rw (eq-eqb (length (late_bytes s)) 2652 late_long, first_of, last_of, same_tandem.tested s.tandem i.tandem, slot_tested s.pending i.pending)

  late_back : late_from (late_bytes s) ≡ s
  unfolding late_from
  late_back = rw (first_of, last_of, tandem_trip.back s.tandem i.tandem, words_are s.pending i.pending)

module _ (l : List ℕ) (e : late_sound l ≡ true) where
  pub late_bytes_lem : length l ≡ 2652
  unfolding late_sound
  late_bytes_lem = eqb-true (length l) 2652 (and_left (eqb (length l) 2652) _ e)

  both_sound : (tandem_sound (take 2448 l) && slot_sound (drop 2448 l)) ≡ true
  unfolding late_sound
  both_sound = and_right (eqb (length l) 2652) _ e

  pub tandem_sound_lem : tandem_sound (take 2448 l) ≡ true
  tandem_sound_lem = and_left (tandem_sound (take 2448 l)) (slot_sound (drop 2448 l)) both_sound

  pub slot_sound_lem : slot_sound (drop 2448 l) ≡ true
  slot_sound_lem = and_right (tandem_sound (take 2448 l)) (slot_sound (drop 2448 l)) both_sound

  late_untested : LateIn (late_from l)
  unfolding late_from
  late_untested = record { tandem = same_tandem.untested (take 2448 l) tandem_sound_lem; pending = slot_ranged (drop 2448 l) slot_sound_lem }

  late_stays : late_bytes (late_from l) ≡ l
  unfolding late_bytes late_from
  late_stays = both (tandem_trip.stays (take 2448 l) tandem_sound_lem) (slot_stays (drop 2448 l) slot_sound_lem) ∙ take-append-drop 2448 l

pub same_late : SameLate
same_late = record { tested = late_tested; untested = late_untested }

pub late_trip : LateTrip
late_trip = record { long = late_long; back = late_back; stays = late_stays }
