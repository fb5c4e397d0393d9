-- What is proved of the image with six tandem levels and of the ranges of refusal 17. Assumes nothing.
use Rattle.std.specs.Prelude.{◌≡◌, true, List, [], ◌∷◌, ℕ, ◌≤◌, length}
use Rattle.settings.specs.Ranges.{SettingsIn}
use Rattle.settings.specs.declared.Request.{Request}
use Rattle.settings.specs.declared.Settings.{Settings}
use Rattle.supervisor.specs.Supervisor.{fresh_of}
use Rattle.history.specs.History.{Frame}
use Rattle.history.specs.Ranges.{Ranged, IsBytes}
use Rattle.racks.specs.Racks.{LevelIn}
use Rattle.tandem.specs.Tandem.{fresh_tandem, give_of, recorded_of, marked_of}
use Rattle.tandem.specs.declared.Level.{Level}
use Rattle.tandem.specs.declared.Tandem.{Tandem}
use Rattle.watch.specs.Watch.{LevelCall, gives, records, frames, marks, framed_at, tandem_after}
use Rattle.bays.specs.Image.{tandem_bytes, tandem_from, tandem_sound}

-- each number of a level, provisioned or not, and the lengths of its arrays
abbrev pub OneIn : Level → Type 0
OneIn l = LevelIn l.options l.state l.second

abbrev pub AllIn : List Level → Type 0
AllIn [] = Unit {0}
AllIn (l ∷ ls) = OneIn l × AllIn ls

pub record TandemIn (t : Tandem) : Type 0 where
  pub base : Ranged t.base
  pub flags : t.flags ≤ 3
  pub six : length t.levels ≡ 6
  pub levels : AllIn t.levels

-- the range test of the bytes is that of the definitions: the image of a supervisor in its ranges passes, and what is read from bytes that
-- pass is in its ranges
pub record SameTandem : Type 0 where
  pub tested : (t : Tandem) → TandemIn t → tandem_sound (tandem_bytes t) ≡ true
  pub untested : (l : List ℕ) → tandem_sound l ≡ true → TandemIn (tandem_from l)

-- the round trip, from a supervisor in its ranges and from sound bytes: neither has a second image
pub record TandemTrip : Type 0 where
  pub long : (t : Tandem) → TandemIn t → length (tandem_bytes t) ≡ 2448
  pub back : (t : Tandem) → TandemIn t → tandem_from (tandem_bytes t) ≡ t
  pub stays : (l : List ℕ) → tandem_sound l ≡ true → tandem_bytes (tandem_from l) ≡ l

-- the overhead of every frame that a list of calls hands in is bytes
abbrev pub CallBytes : List LevelCall → Type 0
CallBytes [] = Unit {0}
CallBytes (gives n r names ∷ cs) = CallBytes cs
CallBytes (records n r names ∷ cs) = CallBytes cs
CallBytes (frames f counts ∷ cs) = IsBytes f.overhead × CallBytes cs
CallBytes (marks ∷ cs) = CallBytes cs

-- the ranges are kept by every call, accepted or refused, and a fresh supervisor has them: after every list of calls none meets refusal 17
pub record TandemKept : Type 0 where
  pub fresh : (p : Settings) → SettingsIn p → TandemIn (fresh_tandem (fresh_of p))
  pub given : (t : Tandem) → TandemIn t → (n : ℕ) (r : Request) (names : List ℕ) → TandemIn (give_of t n r names).tandem
  pub recorded : (t : Tandem) → TandemIn t → (n : ℕ) (r : Request) (names : List ℕ) → TandemIn (recorded_of t n r names).tandem
  pub framed : (t : Tandem) → TandemIn t → (f : Frame) (counts : List ℕ) → IsBytes f.overhead → TandemIn (framed_at t f counts).tandem
  pub marked : (t : Tandem) → TandemIn t → TandemIn (marked_of t).tandem
  pub always : (p : Settings) → SettingsIn p → (cs : List LevelCall) → CallBytes cs → TandemIn (tandem_after (fresh_tandem (fresh_of p)) cs)
