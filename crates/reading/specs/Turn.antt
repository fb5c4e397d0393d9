-- Reading in pieces: what the program does with the bytes it kept, the piece it read and the news that the input has ended; and the law that
-- this gives what is printed of the whole. Assumes nothing.
use Rattle.std.specs.Prelude.{ℕ, ◌+◌, ◌-◌, ◌<◌, ◌≡◌, Bool, true, false, cond, not, ◌||◌, List, [], ◌∷◌, ◌++◌, length, take, drop, eqb}
use Rattle.trace.specs.Scan.{start_of}
use Rattle.stream.specs.Stream.{Scan, scan_from, goes_on, together}
use Rattle.stream.specs.Counts.{Counted}
use Rattle.bins.specs.Bins.{no_bins}
use Rattle.lines.specs.Line.{lines_of, open_over}
use Rattle.reading.specs.Listing.{tail_of, text_of, printed_of}
use Rattle.reading.specs.declared.Reading.{Reading}
use Rattle.reading.specs.declared.Turn as code
use Rattle.reading.specs.declared.Refilled as code_refilled
use Rattle.trace.specs.declared.Stop.{Stop}
use Rattle.trace.specs.declared.Stop.TheVariants as stop

-- what the stop of a run says: whether it ends the turn, whether a record was told (or else a second reported), and the refusal (0: none)
pub record Halt : Type 0 where
  pub ends : Bool
  pub told : Bool
  pub refusal : ℕ

-- a turn: where the reading stands, the bytes used, the bytes to be written, and whether the output is whole with them
pub record Turned : Type 0 where
  pub reading : Reading
  pub used : ℕ
  pub put : ℕ
  pub done : Bool

-- a refill: where the reading stands, how many bytes at the buffer's start are kept, and whether the program ends
pub record Refilled : Type 0 where
  pub reading : Reading
  pub held : ℕ
  pub ended : Bool

-- both as the code has them, with the reading that it leaves, and the bytes to be written
abbrev pub turned_as : code.Turn → Reading → ℕ → Turned
turned_as t r put = record { reading = r; used = t.used; put = put; done = t.done }

abbrev pub refilled_as : code_refilled.Refilled → Reading → Refilled
refilled_as f r = record { reading = r; held = f.held; ended = f.ended }

-- where a scan stands, for the next piece
abbrev pub reading_of : Reading → Scan → Reading
reading_of r c = record { tell = r.tell; office = r.office; state = c.state; at = c.at; frames = c.frames; bins = open_over r.bins c.told }

-- what a reading comes to with bytes that follow it, and its scan as the program knows it
abbrev pub read_from : Reading → List ℕ → Scan
read_from r xs = scan_from r.tell xs r.at r.frames r.state

abbrev pub start_reading : Bool → Bool → Reading
start_reading tell office = record { tell = tell; office = office; state = start_of; at = 0; frames = 0; bins = no_bins }

-- before the first refill nothing is kept
abbrev pub start_refilled : Bool → Bool → Refilled
start_refilled tell office = record { reading = start_reading tell office; held = 0; ended = false }

-- its offset and its count of frames are within what a trace can hold
abbrev pub Sound : Reading → Type 0
Sound r = Counted r.at r.frames r.state

-- what a stop says
unfoldable pub halt_of : Stop → Halt
halt_of stop.More = record { ends = true; told = false; refusal = 0 }
halt_of (stop.Refused number offset) = record { ends = true; told = false; refusal = number }
halt_of stop.Reported = record { ends = false; told = false; refusal = 0 }
halt_of stop.Told = record { ends = false; told = true; refusal = 0 }

-- the output ends where the input has ended, and at a refusal that more bytes would not change
abbrev pub done_of : Scan → Bool → Bool
done_of c ended = ended || not (goes_on c.refusal)

-- what is written after the bytes s: the lines of what they tell, and at the end the last lines
unfoldable pub written_of : Reading → List ℕ → Bool → List ℕ
written_of r s ended =
    let c : Scan = read_from r s in
    lines_of r.office r.bins c.told ++ cond (done_of c ended) (tail_of r.office (open_over r.bins c.told) c) []

-- and what goes on from there
unfoldable pub turn_of : Reading → List ℕ → Bool → Turned
turn_of r s ended =
    let c : Scan = read_from r s in
    record { reading = reading_of r c; used = c.at - r.at; put = length (written_of r s ended); done = done_of c ended }

-- what is still to be written, xs being all bytes that are not used yet
abbrev pub to_come : Reading → List ℕ → List ℕ
to_come r xs = text_of r.office r.bins (read_from r xs)

-- The law of a turn. With more to come, whatever it is: what was to come is what is written now, and then what is to come of the bytes not
-- used. At the end: what was to come is what is written now.
pub record TurnLaw (r : Reading) (s : List ℕ) : Type 0 where
  pub more : (ys : List ℕ) → to_come r (s ++ ys) ≡ written_of r s false ++ cond (turn_of r s false).done [] (to_come (turn_of r s false).reading (drop (turn_of r s false).used s ++ ys))
  pub last : to_come r s ≡ written_of r s true
  pub ends : (turn_of r s true).done ≡ true

-- what the program writes, from a reading and kept bytes on, for pieces of input up to its end
unfoldable pub output_of : Reading → List ℕ → List (List ℕ) → List ℕ
output_of r kept [] = written_of r kept true
output_of r kept (p ∷ ps) =
    let t : Turned = turn_of r (kept ++ p) false in
    written_of r (kept ++ p) false ++ cond t.done [] (output_of t.reading (drop t.used (kept ++ p)) ps)

-- The law of reading in pieces: however the input is cut, what is written is what is printed of the whole.
abbrev pub InPieces : Bool → Bool → List (List ℕ) → Type 0
InPieces tell office ps = output_of (start_reading tell office) [] ps ≡ printed_of tell office (together ps)

-- A refill, that found `held` kept bytes at the start of `buf` and left `buf'`, and `out` to be written: there is a piece, which is what `read` put
-- there (empty at the end of the input), and the rest is a turn over the kept bytes and that piece, with `out` what is to be written, and the bytes that
-- it did not use kept.
pub record Refill (from : Reading) (held : ℕ) (buf buf' out : List ℕ) (r : Refilled) : Type 0 where
  pub piece : List ℕ
  pub whole : List ℕ
  pub is : whole ≡ take held buf ++ piece
  pub turned : Turned
  pub turns : turned ≡ turn_of from whole (eqb (length piece) 0)
  pub written : out ≡ written_of from whole (eqb (length piece) 0)
  pub reading : r.reading ≡ turned.reading
  pub kept : take r.held buf' ≡ drop turned.used whole
  pub done : turned.done ≡ true → r.ended ≡ true
  pub sound : Sound r.reading
  pub room : r.ended ≡ false → r.held < 83
  pub further : r.ended ≡ false → from.at + held < r.reading.at + r.held
