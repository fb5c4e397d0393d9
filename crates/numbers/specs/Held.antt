-- A layer's record in the supervisor's bytes, 288 of them and alike for all layers: its front, its state, its three traces and its expected
-- names. Assumes nothing.
use Rattle.std.specs.Prelude.{Bool, List, [], ◌∷◌, ℕ}
use Rattle.codec.specs.Over.{bytes_in}
use Rattle.codec.specs.Pieces.{Piece, piece, joined}
use Rattle.filter.specs.declared.Filter.{Filter}
use Rattle.filter.specs.declared.Stat.{Stat}
use Rattle.settings.specs.declared.Options.{Options}
use Rattle.layer.specs.declared.Layer.{Layer}
use Rattle.second.specs.declared.Blocks.{Blocks}
use Rattle.frame.specs.declared.SectionState.{SectionState}
use Rattle.frame.specs.declared.PathState.{PathState}
use Rattle.numbers.specs.declared.Front.{Front}
use Rattle.numbers.specs.declared.State.{State}
use Rattle.numbers.specs.Numbers.{front_bytes, front_in, state_bytes, state_in}

pub record Held : Type 0 where
  pub front : Front
  pub state : State
  pub accepted : List ℕ
  pub gathered : List ℕ
  pub previous : List ℕ
  pub names : List ℕ

-- where each part stands in the record's bytes
unfoldable pub held_in : List ℕ → Held
held_in l = record {
  front = front_in (bytes_in 32 0 l);
  state = state_in (bytes_in 32 32 l);
  accepted = bytes_in 64 64 l;
  gathered = bytes_in 64 128 l;
  previous = bytes_in 64 192 l;
  names = bytes_in 32 256 l;
}

-- the bytes, part by part
abbrev pub held_pieces : Held → List Piece
held_pieces h =
    piece 32 (front_bytes h.front) ∷ piece 32 (state_bytes h.state)
    ∷ piece 64 h.accepted ∷ piece 64 h.gathered ∷ piece 64 h.previous ∷ piece 32 h.names ∷ []

unfoldable pub held_bytes : Held → List ℕ
held_bytes h = joined (held_pieces h)

-- What a record holds of its layer.

abbrev pub options_from : Held → Options
options_from h = record { thr = h.front.thr; degm = h.front.degm; mode = h.front.mode; disabled = h.front.disabled; names = h.names }

abbrev pub layer_from : Held → Layer
layer_from h = record {
  accepted = h.accepted;
  gathered = h.gathered;
  previous = h.previous;
  known = h.state.known;
  gathering = h.state.gathering;
  equal = h.state.equal;
  bdi = h.state.bdi;
  deg = h.front.deg;
}

abbrev pub section_from : Held → SectionState
section_from h = record { layer = layer_from h; iae = h.state.iae; biae = h.state.biae }

abbrev pub path_from : Held → PathState
path_from h = record { layer = layer_from h; stat = h.state.stat }

-- And a record of what a layer has.

abbrev pub held_of : Options → Layer → Filter → Filter → Stat → Blocks → Bool → Bool → Held
held_of p l iae biae stat blocks iaeseen biaeseen = record {
  front = record { thr = p.thr; degm = p.degm; mode = p.mode; disabled = p.disabled; deg = l.deg };
  state = record {
    known = l.known;
    gathering = l.gathering;
    equal = l.equal;
    bdi = l.bdi;
    iae = iae;
    biae = biae;
    stat = stat;
    blocks = blocks;
    iaeseen = iaeseen;
    biaeseen = biaeseen;
  };
  accepted = l.accepted;
  gathered = l.gathered;
  previous = l.previous;
  names = p.names;
}
