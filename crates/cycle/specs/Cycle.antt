-- A layer's trace in its record: the three numbers of its cycle and its three traces after a frame, and dTIM; the rest of the record is as it
-- stood. Assumes nothing.
use Rattle.std.specs.Prelude.{◌≡◌, Bool, false, cond, List, [], ◌∷◌, ℕ, ◌%◌, eqb, length, get_or}
use Rattle.answer.specs.Bits.{flag}
use Rattle.codec.specs.Over.{bytes_in}
use Rattle.codec.specs.Pieces.{Piece, piece, joined}
use Rattle.filter.specs.Filter.{quiet}
use Rattle.alignment.specs.declared.Multi.{Multi}
use Rattle.layer.specs.declared.Layer.{Layer}
use Rattle.layer.specs.declared.Cycle.{Cycle}
pub use Rattle.layer.specs.Layer.{tim_in}
use Rattle.layer.specs.Steps.{parts}
pub use Rattle.layer.specs.Steps.{cycle_of}

-- The numbers of a cycle in their three bytes.

abbrev pub cycle_in : List ℕ → Cycle
cycle_in w = record { known = eqb (get_or w 0 0) 1; gathering = eqb (get_or w 1 0) 1; equal = get_or w 2 0 }

abbrev pub cycle_bytes : Cycle → List ℕ
cycle_bytes c = flag c.known ∷ flag c.gathering ∷ (c.equal % 256) ∷ []

-- A layer's trace: 192 bytes of traces, and the three numbers of its cycle.

abbrev pub traced : List ℕ → Cycle → Layer
traced b c = record {
  accepted = bytes_in 64 0 b;
  gathered = bytes_in 64 64 b;
  previous = bytes_in 64 128 b;
  known = c.known;
  gathering = c.gathering;
  equal = c.equal;
  bdi = quiet;
  deg = quiet;
}

abbrev pub cycle_step : List ℕ → Cycle → Bool → Multi → ℕ → Layer
cycle_step b c forget m tti = parts (traced b c) forget m.inmulti m.number tti quiet

abbrev pub traces_of : Layer → List ℕ
traces_of l = joined (piece 64 l.accepted ∷ piece 64 l.gathered ∷ piece 64 l.previous ∷ [])

-- a multiframe by its state and its local number, which is all that a trace asks of it
abbrev pub multi_by : Bool → ℕ → Multi
multi_by inmulti number = record { inmulti = inmulti; number = number; misses = 0; known = false; previous = 0 }

-- A layer's record: its front, its cycle's numbers, its other numbers, its traces, its names.

abbrev pub record_parts : List ℕ → Cycle → List ℕ → List ℕ → List Piece
record_parts b c numbers traces =
    piece 32 (bytes_in 32 0 b) ∷ piece 3 (cycle_bytes c) ∷ piece 29 numbers ∷ piece 192 traces ∷ piece 32 (bytes_in 32 256 b) ∷ []

-- its trace after a frame
abbrev pub layer_step : List ℕ → Bool → Multi → ℕ → Layer
layer_step b forget m tti = cycle_step (bytes_in 192 64 b) (cycle_in (bytes_in 3 32 b)) forget m tti

abbrev pub tim_after : List ℕ → Bool → Multi → ℕ → Bool
tim_after b forget m tti = let l : Layer = layer_step b forget m tti in tim_in l.known l.accepted (get_or b 5 0) (bytes_in 32 256 b)

-- where the bytes are a record, and where they are not
abbrev pub whole : {A : Type 0} → List ℕ → A → A → A
whole b x y = cond (eqb (length b) 288) x y

-- a record with its trace stepped
abbrev pub trace_record : List ℕ → Bool → Multi → ℕ → List ℕ
trace_record b forget m tti = let l : Layer = layer_step b forget m tti in joined (record_parts b (cycle_of l) (bytes_in 29 35 b) (traces_of l))

pub record TraceAt (b : List ℕ) (forget inmulti : Bool) (number tti : ℕ) (r : Bool) (after : List ℕ) : Type 0 where
  pub answers : r ≡ whole b (tim_after b forget (multi_by inmulti number) tti) false
  pub holds : after ≡ whole b (trace_record b forget (multi_by inmulti number) tti) b
