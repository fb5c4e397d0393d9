-- The supervisor as 688 bytes: a record of 112 for the line (its head, alignment, and of the open second the frames and heads), then a
-- record of 288 for each layer. Assumes nothing.
use Rattle.std.specs.Prelude.{◌≡◌, false, List, [], ◌∷◌, ◌++◌, ℕ, length, get_or}
use Rattle.codec.specs.Over.{bytes_in}
use Rattle.codec.specs.Pieces.{Piece, piece, joined, lays}
use Rattle.words.specs.Words.{flat, words_in}
use Rattle.filter.specs.Filter.{quiet}
use Rattle.filter.specs.Stat.{no_stat}
use Rattle.alignment.specs.declared.Alignment.{Alignment}
use Rattle.layer.specs.declared.Layer.{Layer}
use Rattle.settings.specs.declared.Options.{Options}
use Rattle.second.specs.declared.Second.{Second}
use Rattle.second.specs.declared.Blocks.{Blocks}
use Rattle.supervisor.specs.declared.Supervisor.{Supervisor}
use Rattle.numbers.specs.declared.Head.{Head}
use Rattle.numbers.specs.declared.State.{State}
use Rattle.numbers.specs.Numbers.{head_bytes, head_in, align_bytes, align_in}
use Rattle.numbers.specs.Held.{Held, held_in, held_pieces, held_bytes, options_from, section_from, path_from, held_of}

-- The line's record.

-- frames, ten heads and a spare word
abbrev pub counts_of : Second → List ℕ
counts_of c =
    c.frames.0
    ∷ get_or c.heads 0 0 ∷ get_or c.heads 1 0 ∷ get_or c.heads 2 0 ∷ get_or c.heads 3 0 ∷ get_or c.heads 4 0
    ∷ get_or c.heads 5 0 ∷ get_or c.heads 6 0 ∷ get_or c.heads 7 0 ∷ get_or c.heads 8 0 ∷ get_or c.heads 9 0
    ∷ 0 ∷ []

abbrev pub heads_in : List ℕ → List ℕ
heads_in w =
    get_or w 1 0 ∷ get_or w 2 0 ∷ get_or w 3 0 ∷ get_or w 4 0 ∷ get_or w 5 0 ∷ get_or w 6 0 ∷ get_or w 7 0 ∷ get_or w 8 0 ∷ get_or w 9 0 ∷ get_or w 10 0 ∷ []

abbrev pub line_head : Supervisor → Head
line_head s = record { k = s.settings.k; seconds = s.seconds }

abbrev pub line_pieces : Supervisor → List Piece
line_pieces s = piece 32 (head_bytes (line_head s)) ∷ piece 32 (align_bytes s.layers.align) ∷ piece 48 (flat (counts_of s.second)) ∷ []

-- The layers' records. The section has no STAT; the path has no dIAE and no dBIAE.

-- the state of a layer that has none of them
abbrev pub plain_state : Layer → Blocks → State
plain_state l blocks = record {
  known = l.known;
  gathering = l.gathering;
  equal = l.equal;
  bdi = l.bdi;
  iae = quiet;
  biae = quiet;
  stat = no_stat;
  blocks = blocks;
  iaeseen = false;
  biaeseen = false;
}

abbrev pub section_held : Supervisor → Held
section_held s =
    held_of s.settings.section s.layers.section.layer s.layers.section.iae s.layers.section.biae no_stat
    s.second.section s.second.iae s.second.biae

abbrev pub path_held : Supervisor → Held
path_held s = held_of s.settings.path s.layers.path.layer quiet quiet s.layers.path.stat s.second.path false false

-- the image
unfoldable pub bytes_of : Supervisor → List ℕ
bytes_of s = joined (line_pieces s) ++ (held_bytes (section_held s) ++ held_bytes (path_held s))

-- the supervisor of its records
abbrev pub supervisor_from : Head → Alignment → List ℕ → Held → Held → Supervisor
supervisor_from h a counts section path = record {
  settings = record { k = h.k; section = options_from section; path = options_from path };
  layers = record { align = a; section = section_from section; path = path_from path };
  second = record {
    frames = record { 0 = get_or counts 0 0 };
    heads = heads_in counts;
    section = section.state.blocks;
    path = path.state.blocks;
    iae = section.state.iaeseen;
    biae = section.state.biaeseen;
  };
  seconds = h.seconds;
}

-- the supervisor that stands in bytes
unfoldable pub load_of : List ℕ → Supervisor
load_of l =
    supervisor_from (head_in (bytes_in 32 0 l)) (align_in (bytes_in 32 32 l)) (words_in 12 64 l) (held_in (bytes_in 288 112 l)) (held_in (bytes_in 288 400 l))

-- The arrays have their lengths, as those of the code always have.

pub record Sizes (h : Held) : Type 0 where
  pub accepted : length h.accepted ≡ 64
  pub gathered : length h.gathered ≡ 64
  pub previous : length h.previous ≡ 64
  pub names : length h.names ≡ 32

pub record Arrays (s : Supervisor) : Type 0 where
  pub section : Sizes (section_held s)
  pub path : Sizes (path_held s)

-- What storing leaves: pieces, laid one behind the other.

abbrev pub trace_pieces : Layer → List Piece
trace_pieces l = piece 64 l.accepted ∷ piece 64 l.gathered ∷ piece 64 l.previous ∷ []

pub record TracesLaid (before : List ℕ) (at : ℕ) (l : Layer) (after : List ℕ) : Type 0 where
  pub holds : after ≡ lays before at (trace_pieces l)
  pub accepted : length l.accepted ≡ 64
  pub gathered : length l.gathered ≡ 64
  pub previous : length l.previous ≡ 64

-- a layer's record: its provisioning, its layer, and the state of the layer
abbrev pub held_with : Options → Layer → State → Held
held_with p l t = record {
  front = record { thr = p.thr; degm = p.degm; mode = p.mode; disabled = p.disabled; deg = l.deg };
  state = t;
  accepted = l.accepted;
  gathered = l.gathered;
  previous = l.previous;
  names = p.names;
}

pub record HeldLaid (before : List ℕ) (at : ℕ) (h : Held) (after : List ℕ) : Type 0 where
  pub holds : after ≡ lays before at (held_pieces h)
  pub long : Sizes h

-- a supervisor's pieces
abbrev pub pieces_of : Supervisor → List Piece
pieces_of s = line_pieces s ++ (held_pieces (section_held s) ++ held_pieces (path_held s))

pub record Stored (before : List ℕ) (s : Supervisor) (after : List ℕ) : Type 0 where
  pub holds : after ≡ lays before 0 (pieces_of s)
  pub long : Arrays s
