-- What is proved of a frame and of a mark in the records of a supervisor in its ranges: each part answers what the definitions say, and leaves
-- the record of the supervisor after it. Assumes nothing.
use Rattle.std.specs.Prelude.{◌≡◌, ◌||◌, List, ◌++◌, ℕ, ◌+◌}
use Rattle.codec.specs.Pieces.{joined}
use Rattle.words.specs.Words.{flat}
use Rattle.causes.specs.Causes.{ssf_of, tim_acts, head_of}
use Rattle.causes.specs.declared.Standing.{Standing}
use Rattle.causes.specs.declared.SectionStands.{SectionStands}
use Rattle.overhead.specs.Overhead.{overhead_of}
use Rattle.overhead.specs.declared.Overhead.{Overhead}
use Rattle.second.specs.declared.Blocks.{Blocks}
use Rattle.second.specs.Second.{closed_of}
use Rattle.supervisor.specs.declared.Supervisor.{Supervisor}
use Rattle.supervisor.specs.Supervisor.{stands_after, frame_of, next_second}
use Rattle.numbers.specs.Numbers.{head_bytes, align_bytes}
use Rattle.numbers.specs.Held.{held_bytes}
use Rattle.image.specs.Image.{line_head, counts_of, line_pieces, section_held, path_held}
use Rattle.place.specs.declared.LineFrame.{LineFrame}
use Rattle.place.specs.declared.PathFrame.{PathFrame}
use Rattle.place.specs.Place.{LineAt, SectionAt, path_frame, PathAt, tallied_in, CloseAt, opened_in}

-- the head and alignment, the first 64 bytes of the line's record
abbrev pub line_front : Supervisor → List ℕ
line_front s = head_bytes (line_head s) ++ align_bytes s.layers.align

-- a frame, part by part
pub record InFrame (s : Supervisor) (overhead : List ℕ) (flags sm pm : ℕ) : Type 0 where
  pub line : (a : LineFrame) (x : List ℕ) → let o : Overhead = overhead_of overhead in LineAt (line_front s) o.four o.three o.mfas flags a x
      → ((a.line ≡ (stands_after s overhead flags).line) × (a.multi ≡ (frame_of s overhead flags sm pm).layers.align.multi)) × (x ≡ line_front (frame_of s overhead flags sm pm))
  pub section : (r : SectionStands) (x : List ℕ)
      → SectionAt (held_bytes (section_held s)) (ssf_of (stands_after s overhead flags).line) (frame_of s overhead flags sm pm).layers.align.multi (overhead_of overhead).section sm r x
      → (r ≡ (stands_after s overhead flags).section) × (x ≡ held_bytes (section_held (frame_of s overhead flags sm pm)))
  pub path : (r : PathFrame) (x : List ℕ) → let d : Standing = stands_after s overhead flags in
      PathAt (held_bytes (path_held s)) (ssf_of d.line || tim_acts d.section.tim d.section.disabled) (frame_of s overhead flags sm pm).layers.align.multi (overhead_of overhead).path pm r x
      → (r ≡ path_frame d.path) × (x ≡ held_bytes (path_held (frame_of s overhead flags sm pm)))
  pub tally : tallied_in (flat (counts_of s.second)) (head_of (stands_after s overhead flags)) ≡ flat (counts_of (frame_of s overhead flags sm pm).second)

-- a mark, part by part
pub record InMark (s : Supervisor) : Type 0 where
  pub section : (r : Blocks) (x : List ℕ) → CloseAt (held_bytes (section_held s)) r x
      → (r ≡ (closed_of s.second).section) × (x ≡ held_bytes (section_held (next_second s)))
  pub path : (r : Blocks) (x : List ℕ) → CloseAt (held_bytes (path_held s)) r x
      → (r ≡ (closed_of s.second).path) × (x ≡ held_bytes (path_held (next_second s)))
  pub line : opened_in (joined (line_pieces s)) (record { k = s.settings.k; seconds = s.seconds + 1 }) ≡ joined (line_pieces (next_second s))
