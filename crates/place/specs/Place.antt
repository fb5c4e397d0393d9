-- A frame and a mark in a supervisor's bytes, part by part: each part of a record becomes what the definitions say, and what a frame does not
-- change is as it stood. Assumes nothing.
use Rattle.std.specs.Prelude.{◌≡◌, Bool, false, cond, ◌&&◌, ◌||◌, not, List, [], ◌∷◌, ◌++◌, ℕ, ◌+◌, leb, ltb, get_or, replicate}
use Rattle.codec.specs.Over.{bytes_in, laid}
use Rattle.codec.specs.Pieces.{piece, joined}
use Rattle.words.specs.Words.{flat, counted_in}
use Rattle.overhead.specs.Bei.{bei_of, path_bei, is_far, is_biae}
use Rattle.overhead.specs.declared.Field.{Field}
use Rattle.filter.specs.Filter.{filter_of}
use Rattle.filter.specs.Stat.{stat_of}
use Rattle.filter.specs.declared.Filter.{Filter}
use Rattle.filter.specs.declared.Stat.{Stat}
use Rattle.alignment.specs.Alignment.{frames_of, align_of}
use Rattle.alignment.specs.declared.Alignment.{Alignment}
use Rattle.alignment.specs.declared.Multi.{Multi}
use Rattle.signal.specs.Signal.{stands_for, is_ais, is_oci, is_lck, raised_of}
use Rattle.signal.specs.declared.Signal.TheVariants.{Clear}
use Rattle.layer.specs.declared.Layer.{Layer}
use Rattle.second.specs.declared.Blocks.{Blocks}
use Rattle.second.specs.Second.{counted_of, discard_of, no_blocks}
use Rattle.causes.specs.declared.SectionStands.{SectionStands}
use Rattle.causes.specs.declared.PathStands.{PathStands}
use Rattle.frame.specs.Layers.{line_of}
use Rattle.numbers.specs.declared.Head.{Head}
use Rattle.numbers.specs.declared.Front.{Front}
use Rattle.numbers.specs.declared.State.{State}
use Rattle.numbers.specs.Numbers.{on, head_bytes, head_in, align_bytes, align_in, front_bytes, front_in, state_bytes, state_in}
use Rattle.fields.specs.Fields.{filter_at, filter_bytes, stat_at, stat_bytes, flags_in, counts_in}
use Rattle.cycle.specs.Cycle.{cycle_of, traces_of, record_parts, layer_step, tim_after, whole}
use Rattle.place.specs.declared.LineFrame.{LineFrame}
use Rattle.place.specs.declared.PathFrame.{PathFrame}
use Rattle.place.specs.declared.Filtered.{Filtered}

-- The section's other numbers: "dBDI: BDI 1 in five frames in a row; cleared by five 0"; "Section dIAE: IAE, five and five. Section dBIAE: BEI = 1011
-- in three frames in a row; cleared by three others. Both false during SSF and dTIM." It has no STAT. Then the second's flags, sum and counts: "Blocks
-- are not counted during SSF"; "Near DS: in some frame of the second SSF, dTIM .. stood. Far DS: dBDI stood." The sum of BEI violations "is .. stopped as
-- the far block count is" (document 02, K7).
abbrev pub section_filters : List ℕ → Bool → Bool → Field → Filtered
section_filters w ssf tim f = record {
  bdi = filter_of (filter_at w 0) 5 ssf f.bdi;
  iae = filter_of (filter_at w 2) 5 (ssf || tim) f.iae;
  biae = filter_of (filter_at w 4) 3 (ssf || tim) (is_biae (bei_of f.bei));
}

abbrev pub filtered_bytes : Filtered → List ℕ
filtered_bytes d = filter_bytes d.bdi ++ (filter_bytes d.iae ++ filter_bytes d.biae)

unfoldable pub section_numbers : List ℕ → Bool → Bool → Field → ℕ → List ℕ
section_numbers w ssf tim f sm =
    let d : Filtered = section_filters (bytes_in 6 0 w) ssf tim f in
    joined
    (piece 6 (filtered_bytes d)
    ∷ piece 4 (bytes_in 4 6 w)
    ∷ piece 4 (flags_in (ssf || tim) d.bdi.on d.iae.on d.biae.on (bytes_in 4 10 w))
    ∷ piece 3 (bytes_in 3 14 w)
    ∷ piece 12
    (counts_in
    (leb 1 sm && not ssf)
    (is_far (bei_of f.bei) && not ssf)
    (counted_of (bei_of f.bei) ssf)
    (bytes_in 12 17 w))
    ∷ [])

abbrev pub section_stood : List ℕ → Bool → Multi → Field → SectionStands
section_stood b ssf m f =
    let tim : Bool = tim_after b ssf m f.tti in
    let d : Filtered = section_filters (bytes_in 6 0 (bytes_in 29 35 b)) ssf tim f in
    record { tim = tim; disabled = on (get_or b 6 0); bdi = d.bdi.on; iae = d.iae.on; biae = d.biae.on; deg = on (get_or b 7 0) }

unfoldable pub section_record : List ℕ → Bool → Multi → Field → ℕ → List ℕ
section_record b ssf m f sm =
    let l : Layer = layer_step b ssf m f.tti in
    joined (record_parts b (cycle_of l) (section_numbers (bytes_in 29 35 b) ssf (tim_after b ssf m f.tti) f sm) (traces_of l))

abbrev pub no_section : SectionStands
no_section = record { tim = false; disabled = false; bdi = false; iae = false; biae = false; deg = false }

pub record SectionAt (b : List ℕ) (ssf : Bool) (m : Multi) (f : Field) (sm : ℕ) (r : SectionStands) (after : List ℕ) : Type 0 where
  pub answers : r ≡ whole b (section_stood b ssf m f) no_section
  pub holds : after ≡ whole b (section_record b ssf m f sm) b

-- The path: STAT is "forgotten during path SSF"; its trace and dBDI are false "in the path also during dAIS"; blocks "in the path also not
-- during dAIS, dOCI, dLCK". It has no dIAE and no dBIAE.
abbrev pub path_stat : List ℕ → Bool → Field → Stat
path_stat b ssf f = stat_of (stat_at b 41) ssf f.stat

abbrev pub path_forgets : Bool → Stat → Bool
path_forgets ssf t = ssf || is_ais (stands_for t)

abbrev pub path_stops : Bool → Stat → Bool
path_stops ssf t = ssf || is_ais (stands_for t) || is_oci (stands_for t) || is_lck (stands_for t)

abbrev pub path_bdi_at : List ℕ → Bool → Field → Filter
path_bdi_at w forget f = filter_of (filter_at w 0) 5 forget f.bdi

unfoldable pub path_numbers : List ℕ → Stat → Bool → Bool → Bool → Field → ℕ → List ℕ
path_numbers w t forget stops tim f pm =
    let bdi : Filter = path_bdi_at (bytes_in 2 0 w) forget f in
    joined
    (piece 2 (filter_bytes bdi)
    ∷ piece 4 (bytes_in 4 2 w)
    ∷ piece 4 (stat_bytes t)
    ∷ piece 4 (flags_in (stops || tim) bdi.on false false (bytes_in 4 10 w))
    ∷ piece 3 (bytes_in 3 14 w)
    ∷ piece 12
    (counts_in
    (leb 1 pm && not stops)
    (is_far (path_bei f.bei) && not stops)
    (counted_of (path_bei f.bei) stops)
    (bytes_in 12 17 w))
    ∷ [])

abbrev pub path_stood : List ℕ → Bool → Multi → Field → PathStands
path_stood b ssf m f =
    let t : Stat = path_stat b ssf f in
    record {
      signal = stands_for t;
      tim = tim_after b (path_forgets ssf t) m f.tti;
      disabled = on (get_or b 6 0);
      bdi = (path_bdi_at (bytes_in 2 0 (bytes_in 29 35 b)) (path_forgets ssf t) f).on;
      deg = on (get_or b 7 0);
    }

unfoldable pub path_record : List ℕ → Bool → Multi → Field → ℕ → List ℕ
path_record b ssf m f pm =
    let t : Stat = path_stat b ssf f in
    let forget : Bool = path_forgets ssf t in
    let l : Layer = layer_step b forget m f.tti in
    joined (record_parts b (cycle_of l) (path_numbers (bytes_in 29 35 b) t forget (path_stops ssf t) (tim_after b forget m f.tti) f pm) (traces_of l))

abbrev pub no_path : PathStands
no_path = record { signal = Clear; tim = false; disabled = false; bdi = false; deg = false }

-- what stands, and the defects that its signal raises
abbrev pub path_frame : PathStands → PathFrame
path_frame d = record { stands = d; raised = raised_of d.signal }

pub record PathAt (b : List ℕ) (ssf : Bool) (m : Multi) (f : Field) (pm : ℕ) (r : PathFrame) (after : List ℕ) : Type 0 where
  pub answers : r ≡ path_frame (whole b (path_stood b ssf m f) no_path)
  pub holds : after ≡ whole b (path_record b ssf m f pm) b

-- The line: alignment in its strip, and a frame filed under its head.

abbrev pub align_after : List ℕ → Bool → Bool → ℕ → Alignment
align_after b four three mfas = align_of (align_in (bytes_in 32 32 b)) (frames_of (head_in (bytes_in 32 0 b)).k) four three mfas

pub record LineAt (b : List ℕ) (four three : Bool) (mfas flags : ℕ) (r : LineFrame) (after : List ℕ) : Type 0 where
  pub line : r.line ≡ line_of (align_after b four three mfas) (frames_of (head_in (bytes_in 32 0 b)).k) flags
  pub multi : r.multi ≡ (align_after b four three mfas).multi
  pub holds : after ≡ laid b 32 (align_bytes (align_after b four three mfas))

unfoldable pub tallied_in : List ℕ → ℕ → List ℕ
tallied_in b head = cond (ltb head 10) (counted_in (counted_in b 0 400000) (head + 1) 400000) (counted_in b 0 400000)

-- A mark. A layer's values of the second are closed ("If section dIAE stood in any frame, the section's four values of that second become 0 and
-- false; if dBIAE, its two far values"; the sum "is discarded .. as the far block count is", document 02, K7), dDEG is decided by them, and the next
-- second has none.
abbrev pub closed_in : List ℕ → Blocks
closed_in b = let s : State = state_in (bytes_in 32 32 b) in discard_of s.blocks s.iaeseen s.biaeseen

abbrev pub front_after : List ℕ → Front
front_after b =
    let f : Front = front_in (bytes_in 32 0 b) in
    record { thr = f.thr; degm = f.degm; mode = f.mode; disabled = f.disabled; deg = filter_of f.deg f.degm false (leb f.thr (closed_in b).near.0) }

abbrev pub state_after : List ℕ → State
state_after b =
    let s : State = state_in (bytes_in 32 32 b) in
    record {
      known = s.known;
      gathering = s.gathering;
      equal = s.equal;
      bdi = s.bdi;
      iae = s.iae;
      biae = s.biae;
      stat = s.stat;
      blocks = no_blocks;
      iaeseen = false;
      biaeseen = false;
    }

pub record CloseAt (b : List ℕ) (r : Blocks) (after : List ℕ) : Type 0 where
  pub answers : r ≡ closed_in b
  pub holds : after ≡ laid (laid b 0 (front_bytes (front_after b))) 32 (state_bytes (state_after b))

-- the line's record: a head, and no frame under any head
unfoldable pub opened_in : List ℕ → Head → List ℕ
opened_in b h = laid (laid b 0 (head_bytes h)) 64 (flat (replicate 12 0))
