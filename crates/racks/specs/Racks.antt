-- What is proved of a level's record: for a level in its ranges a frame and a mark in the record are those of the definitions, and keep the ranges;
-- the range test is that of the definitions, and neither a level nor sound bytes have a second image. Assumes nothing.
use Rattle.std.specs.Prelude.{◌≡◌, Bool, true, List, ℕ, ◌≤◌, length}
use Rattle.overhead.specs.declared.Field.{Field}
use Rattle.alignment.specs.declared.Multi.{Multi}
use Rattle.settings.specs.declared.Options.{Options}
use Rattle.settings.specs.Ranges.{OptionsIn}
use Rattle.second.specs.declared.Blocks.{Blocks}
use Rattle.history.specs.Ranges.{LayerIn, BlocksIn}
use Rattle.level.specs.declared.LevelState.{LevelState}
use Rattle.level.specs.declared.LevelStands.{LevelStands}
use Rattle.level.specs.declared.LevelSecond.{LevelSecond}
use Rattle.level.specs.Level.{level_of, level_frame, level_stands, level_count, level_closed, level_marked, fresh_level, fresh_level_second}
use Rattle.numbers.specs.Held.{Held, held_in, held_bytes, options_from}
use Rattle.place.specs.Place.{CloseAt}
use Rattle.rack.specs.Rack.{level_held, level_from, level_second_from, LevelAt, level_sound}

-- the bytes of a level
abbrev pub level_bytes : Options → LevelState → LevelSecond → List ℕ
level_bytes p s c = held_bytes (level_held p s c)

-- the open second after a frame
abbrev pub second_after : Options → LevelState → LevelSecond → Bool → Multi → Field → ℕ → LevelSecond
second_after p s c ssf m f violations = level_count c (level_stands (level_of s p ssf m f) p ssf) f.bei violations

-- The ranges of a level's numbers, and the lengths of its arrays.

pub record LevelStateIn (s : LevelState) : Type 0 where
  pub layer : LayerIn s.layer
  pub value : s.stat.value ≤ 7
  pub run : s.stat.run ≤ 3
  pub accepted : s.stat.accepted ≤ 7
  pub biae : s.biae.run ≤ 2

pub record LevelIn (p : Options) (s : LevelState) (c : LevelSecond) : Type 0 where
  pub options : OptionsIn p
  pub state : LevelStateIn s
  pub blocks : BlocksIn c.blocks

-- a frame and a mark in the record of a level
pub record InLevel (p : Options) (s : LevelState) (c : LevelSecond) : Type 0 where
  pub framed : (ssf : Bool) (m : Multi) (f : Field) (violations : ℕ) (r : LevelStands) (x : List ℕ) → LevelAt (level_bytes p s c) ssf m f violations r x
      → (r ≡ (level_frame s p ssf m f).stands) × (x ≡ level_bytes p (level_of s p ssf m f) (second_after p s c ssf m f violations))
  pub marked : (r : Blocks) (x : List ℕ) → CloseAt (level_bytes p s c) r x → (r ≡ level_closed c) × (x ≡ level_bytes p (level_marked s p c) fresh_level_second)

-- the ranges are kept by a frame whose STAT has three bits and by a mark, and a fresh level has them
pub record LevelKept (p : Options) : Type 0 where
  pub framed : (s : LevelState) (c : LevelSecond) → LevelIn p s c → (ssf : Bool) (m : Multi) (f : Field) (violations : ℕ) → f.stat ≤ 7
      → LevelIn p (level_of s p ssf m f) (second_after p s c ssf m f violations)
  pub marked : (s : LevelState) (c : LevelSecond) → LevelIn p s c → LevelIn p (level_marked s p c) fresh_level_second
  pub fresh : OptionsIn p → LevelIn p fresh_level fresh_level_second

-- the range test of the bytes is that of the definitions: the bytes of a level in its ranges pass, and what is read from bytes that pass is in its
-- ranges
pub record SameLevel : Type 0 where
  pub tested : (p : Options) (s : LevelState) (c : LevelSecond) → LevelIn p s c → level_sound (level_bytes p s c) ≡ true
  pub untested : (l : List ℕ) → level_sound l ≡ true → let h : Held = held_in l in LevelIn (options_from h) (level_from h) (level_second_from h)

-- the round trip, from a level in its ranges and from sound bytes
pub record LevelTrip : Type 0 where
  pub long : (p : Options) (s : LevelState) (c : LevelSecond) → LevelIn p s c → length (level_bytes p s c) ≡ 288
  pub back : (p : Options) (s : LevelState) (c : LevelSecond) → LevelIn p s c → let h : Held = held_in (level_bytes p s c) in
      ((options_from h ≡ p) × (level_from h ≡ s)) × (level_second_from h ≡ c)
  pub stays : (l : List ℕ) → level_sound l ≡ true → let h : Held = held_in l in level_bytes (options_from h) (level_from h) (level_second_from h) ≡ l
