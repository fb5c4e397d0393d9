-- Six tandem levels in 1760 bytes, the bay: a strip of 32 (the flags of the last accepted frame, then whether levels 1 to 6 are provisioned, then spare
-- bytes), and behind it the records of levels 1 to 6, 288 bytes each (docs/SUPERVISOR.md has the table). What is done to a level is said once, over its
-- number; a level that is not provisioned is tested and otherwise left alone. Assumes nothing.
use Rattle.std.specs.Prelude.{◌≡◌, Bool, true, false, cond, ◌&&◌, List, [], ◌∷◌, ◌++◌, ℕ, zero, suc, ◌-◌, eqb, leb, length, get_or, take, drop, set, replicate}
use Rattle.answer.specs.Bits.{flag}
use Rattle.answer.specs.Each.{each_from}
use Rattle.codec.specs.Over.{laid}
use Rattle.overhead.specs.Overhead.{level_field}
use Rattle.alignment.specs.declared.Multi.{Multi}
use Rattle.settings.specs.declared.Options.{Options}
use Rattle.second.specs.declared.Blocks.{Blocks}
use Rattle.level.specs.Level.{level_stands, fresh_level, fresh_level_second}
use Rattle.level.specs.declared.LevelStands.{LevelStands}
use Rattle.supervisor.specs.Supervisor.{blank_options}
use Rattle.supervisor.specs.Supervisor.{Traced}
use Rattle.ranges.specs.Sound.{below}
use Rattle.numbers.specs.Numbers.{on, front_bytes, state_bytes}
use Rattle.numbers.specs.Held.{Held, held_in, held_bytes, options_from}
use Rattle.place.specs.Place.{closed_in, front_after, state_after}
use Rattle.rack.specs.Rack.{level_held, level_from, level_record, no_level, level_sound}

-- Where the bytes are a bay, and where they are not.

abbrev pub if_bay : {A : Type 0} → List ℕ → A → A → A
if_bay b x y = cond (eqb (length b) 1760) x y

-- The records: k of them one behind the other, and those of levels 1 to 6, which stand behind the strip.

abbrev pub records_from : ℕ → List ℕ → List (List ℕ)
records_from zero b = []
records_from (suc k) b = take 288 b ∷ records_from k (drop 288 b)

abbrev pub records_of : List ℕ → List (List ℕ)
records_of b = records_from 6 (drop 32 b)

-- lists one behind the other
unfoldable pub chained : List (List ℕ) → List ℕ
chained [] = []
chained (r ∷ rs) = r ++ chained rs

-- the record of level n, and whether it is provisioned; there is no other than 1 to 6
abbrev pub record_at : List ℕ → ℕ → List ℕ
record_at b n = get_or (records_of b) (n - 1) []

unfoldable pub given_in : List ℕ → ℕ → Bool
given_in b n = if_bay b (cond (leb 1 n) (cond (leb n 6) (on (get_or b n 0)) false) false) false

-- The test of 17. In the strip the flags are 0 to 3, a provisioned level is 1 and another 0, a spare byte is 0; each record has the ranges of a level,
-- provisioned or not.

abbrev pub strip_greatest : List ℕ
strip_greatest = 3 ∷ (replicate 6 1 ++ replicate 25 0)

unfoldable pub all_sound : List (List ℕ) → Bool
all_sound [] = true
all_sound (r ∷ rs) = level_sound r && all_sound rs

unfoldable pub bay_sound : List ℕ → Bool
bay_sound b = if_bay b (below strip_greatest (take 32 b) && all_sound (records_of b)) false

-- Each record made anew by a rule that is given its level's number; the strip stays.

abbrev pub each_record : (ℕ → List ℕ → List ℕ) → List ℕ → List ℕ
each_record f b = take 32 b ++ chained (each_from f 1 (records_of b))

-- A level as it is provisioned, no frame met.

abbrev pub fresh_record : Options → List ℕ
fresh_record p = held_bytes (level_held p fresh_level fresh_level_second)

-- a blank level's numbers: the first 64 bytes of its record
abbrev pub blank_numbers : List ℕ
blank_numbers = take 64 (fresh_record blank_options)

-- no level provisioned, and no flags met: each record holds blanks
abbrev pub blank_rule : ℕ → List ℕ → List ℕ
blank_rule n r = fresh_record blank_options

unfoldable pub blank_bay : List ℕ → List ℕ
blank_bay b = if_bay b (replicate 32 0 ++ chained (replicate 6 (fresh_record blank_options))) b

-- level n provisioned, and no other changed
abbrev pub with_record : List ℕ → ℕ → Options → List ℕ
with_record b n p = let c : List ℕ = set b n 1 in take 32 c ++ chained (set (records_of c) (n - 1) (fresh_record p))

unfoldable pub gave_in : List ℕ → ℕ → Options → List ℕ
gave_in b n p = if_bay b (cond (leb 1 n) (cond (leb n 6) (with_record b n p) b) b) b

-- "A level is monitored only if provisioned": its record by a rule where it is, and another stays.

abbrev pub where_given : {A : Type 0} → List ℕ → ℕ → A → A → A
where_given b n x y = cond (on (get_or b n 0)) x y

abbrev pub given_rule : (ℕ → List ℕ → List ℕ) → List ℕ → ℕ → List ℕ → List ℕ
given_rule f b n r = where_given b n (f n r) r

abbrev pub each_given : (ℕ → List ℕ → List ℕ) → List ℕ → List ℕ
each_given f b = each_record (given_rule f b) b

-- A frame: the flags are kept, and each provisioned level has its own three bytes and its own count.

abbrev pub frame_record : Bool → Multi → List ℕ → List ℕ → ℕ → List ℕ → List ℕ
frame_record ssf m overhead counts n r = level_record r ssf m (level_field overhead n) (get_or counts (n - 1) 0)

unfoldable pub framed_in : List ℕ → ℕ → Bool → Multi → List ℕ → List ℕ → List ℕ
framed_in b flags ssf m overhead counts = if_bay b (each_given (frame_record ssf m overhead counts) (set b 0 flags)) b

-- A mark: each provisioned level is closed, and has its five figures, "lowest level first"; zeros where it is not provisioned.

abbrev pub closed_record : List ℕ → List ℕ
closed_record r = laid (laid r 0 (front_bytes (front_after r))) 32 (state_bytes (state_after r))

abbrev pub mark_record : ℕ → List ℕ → List ℕ
mark_record n r = closed_record r

unfoldable pub marked_in : List ℕ → List ℕ
marked_in b = if_bay b (each_given mark_record b) b

-- near-end and far-end blocks, near and far DS, the sum of far-end violations, after the level's own discard; "The sum comes last in each layer's group"
abbrev pub five_by : Blocks → List ℕ
five_by d = d.near.0 ∷ d.far.0 ∷ flag d.neards ∷ flag d.fards ∷ d.sum.0 ∷ []

abbrev pub five_rule : List ℕ → ℕ → List ℕ → List ℕ
five_rule b n r = where_given b n (five_by (closed_in r)) (replicate 5 0)

abbrev pub fives_of : List ℕ → List ℕ
fives_of b = chained (each_from (five_rule b) 1 (records_of b))

unfoldable pub figures_in : List ℕ → List ℕ
figures_in b = if_bay b (fives_of b) (replicate 30 0)

-- of one level, in its record
pub record OneMark (given : Bool) (b : List ℕ) (r : List ℕ) (after : List ℕ) : Type 0 where
  pub answers : r ≡ cond given (five_by (closed_in b)) (replicate 5 0)
  pub holds : after ≡ cond given (closed_record b) b

pub record MarkAt (b : List ℕ) (r : List ℕ) (after : List ℕ) : Type 0 where
  pub answers : r ≡ figures_in b
  pub holds : after ≡ marked_in b

-- What is read of level n: what stands, by the path's SSF, and its accepted trace; nothing, and 13 "no accepted trace", where it is not provisioned.

abbrev pub stood_in : List ℕ → Bool → LevelStands
stood_in r ssf = let h : Held = held_in r in level_stands (level_from h) (options_from h) ssf

unfoldable pub stands_in : List ℕ → ℕ → Bool → LevelStands
stands_in b n ssf = cond (given_in b n) (stood_in (record_at b n) ssf) no_level

abbrev pub no_trace : Traced
no_trace = record { refusal = 13; trace = replicate 64 0 }

abbrev pub trace_of : List ℕ → Traced
trace_of r = let h : Held = held_in r in cond h.state.known (record { refusal = 0; trace = h.accepted }) no_trace

unfoldable pub traced_in : List ℕ → ℕ → Traced
traced_in b n = cond (given_in b n) (trace_of (record_at b n)) no_trace
