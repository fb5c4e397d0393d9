-- What is proved of the image with the pending second and of the ranges of refusal 17. Assumes nothing.
use Rattle.std.specs.Prelude.{◌≡◌, true, List, ℕ, length}
use Rattle.settings.specs.Ranges.{SettingsIn}
use Rattle.settings.specs.declared.Settings.{Settings}
use Rattle.supervisor.specs.Supervisor.{fresh_of}
use Rattle.tandem.specs.Tandem.{fresh_tandem}
use Rattle.watch.specs.Watch.{LevelCall}
use Rattle.slot.specs.Slot.{figures_ranged}
use Rattle.late.specs.Late.{fresh_late, late_marked}
use Rattle.late.specs.declared.Late.{Late}
use Rattle.reports.specs.Reports.{late_after}
use Rattle.bays.specs.Ranges.{TandemIn, CallBytes}
use Rattle.slots.specs.Image.{late_bytes, late_from, late_sound}

-- each number of the supervisor with levels, and each figure of the pending second
pub record LateIn (s : Late) : Type 0 where
  pub tandem : TandemIn s.tandem
  pub pending : figures_ranged s.pending ≡ true

-- the range test of the bytes is that of the definitions: the image of a supervisor in its ranges passes, and what is read from bytes that pass is in its ranges
pub record SameLate : Type 0 where
  pub tested : (s : Late) → LateIn s → late_sound (late_bytes s) ≡ true
  pub untested : (l : List ℕ) → late_sound l ≡ true → LateIn (late_from l)

-- the round trip, from a supervisor in its ranges and from sound bytes: neither has a second image
pub record LateTrip : Type 0 where
  pub long : (s : Late) → LateIn s → length (late_bytes s) ≡ 2652
  pub back : (s : Late) → LateIn s → late_from (late_bytes s) ≡ s
  pub stays : (l : List ℕ) → late_sound l ≡ true → late_bytes (late_from l) ≡ l

-- the ranges are kept by a mark, accepted or refused, and by every list of calls from fresh
pub record LateKept : Type 0 where
  pub fresh : (p : Settings) → SettingsIn p → LateIn (fresh_late (fresh_tandem (fresh_of p)))
  pub marked : (s : Late) → LateIn s → LateIn (late_marked s).late
  pub always : (p : Settings) → SettingsIn p → (cs : List LevelCall) → CallBytes cs → LateIn (late_after (fresh_late (fresh_tandem (fresh_of p))) cs)
