-- A mark in the records of a supervisor in its ranges: each record becomes that of the next second. Assumes nothing.
use mathlib.Core.Path.{◌≡◌, refl, ap, ◌∙◌}
use mathlib.Core.Bool.{false}
use mathlib.Core.List.{List, [], ◌∷◌}
use Prim.Native.Nat.{ℕ, ◌+◌}
use native.Mathlib.Omega.{arith}
use lib.Dec.{leb}
use lib.ListN.{length}
use Rattle.codec.specs.Over.{bytes_in, laid}
use Rattle.codec.specs.Pieces.{piece, joined}
use Rattle.codec.proofs.Pieces.{bytes_piece, laid_piece}
use Rattle.words.specs.Words.{flat}
use Rattle.filter.specs.Filter.{filter_of}
use Rattle.second.specs.declared.Blocks.{Blocks}
use Rattle.second.specs.Second.{discard_of, closed_of, no_blocks, fresh_second}
use Rattle.supervisor.specs.declared.Supervisor.{Supervisor}
use Rattle.supervisor.specs.Supervisor.{next_second}
use Rattle.history.specs.Ranges.{Ranged}
use Rattle.numbers.specs.declared.Head.{Head}
use Rattle.numbers.specs.declared.Front.{Front}
use Rattle.numbers.specs.declared.State.{State}
use Rattle.numbers.specs.Numbers.{head_bytes, align_bytes, front_bytes, front_in, state_bytes, state_in}
use Rattle.numbers.specs.Held.{Held, held_pieces, held_bytes}
use Rattle.numbers.proofs.Strips.{FrontFits, StateFits, front_back, state_back}
use Rattle.records.proofs.Held.{section_fits, path_fits}
use Rattle.image.specs.Image.{counts_of, line_head, line_pieces, section_held, path_held, Sizes}
use Rattle.image.proofs.Bytes.{counts_long, held_sized}
use Rattle.image.proofs.Ranges.{arrays_of}
use Rattle.place.specs.Place.{CloseAt, opened_in}
use Rattle.records.specs.Records.{InMark}

-- A layer's record after a mark, by its front and its state.

abbrev closed_by : State → Blocks
closed_by t = discard_of t.blocks t.iaeseen t.biaeseen

abbrev front_by : Front → State → Front
front_by f t = record {
  thr = f.thr;
  degm = f.degm;
  mode = f.mode;
  disabled = f.disabled;
  deg = filter_of f.deg f.degm false (leb f.thr (closed_by t).near.0);
}

abbrev state_by : State → State
state_by t = record {
  known = t.known;
  gathering = t.gathering;
  equal = t.equal;
  bdi = t.bdi;
  iae = t.iae;
  biae = t.biae;
  stat = t.stat;
  blocks = no_blocks;
  iaeseen = false;
  biaeseen = false;
}

abbrev held_after : Held → Held
held_after h = record {
  front = front_by h.front h.state;
  state = state_by h.state;
  accepted = h.accepted;
  gathered = h.gathered;
  previous = h.previous;
  names = h.names;
}

-- its bytes where its front and its state are laid
abbrev laid_by : List ℕ → Front → State → List ℕ
laid_by b f t = laid (laid b 0 (front_bytes (front_by f t))) 32 (state_bytes (state_by t))

laid_held : (h : Held) (f : Front) (t : State) → Sizes h
    → laid (laid (held_bytes h) 0 (front_bytes f)) 32 (state_bytes t)
    ≡ held_bytes (record { front = f; state = t; accepted = h.accepted; gathered = h.gathered; previous = h.previous; names = h.names })
unfolding held_bytes
laid_held h f t z =
    let g : Held = record { front = f; state = h.state; accepted = h.accepted; gathered = h.gathered; previous = h.previous; names = h.names } in
    let y : Sizes g = record { accepted = z.accepted; gathered = z.gathered; previous = z.previous; names = z.names } in
    ap (λ (b : List ℕ). laid b 32 (state_bytes t)) (laid_piece 0 (held_pieces h) (front_bytes f) (held_sized h z) (omega arith) refl)
    ∙ laid_piece 1 (held_pieces g) (state_bytes t) (held_sized g y) (omega arith) refl

-- A record whose numbers fit is closed as its front and its state are.
module _ (h : Held) (z : Sizes h) (f : FrontFits h.front) (t : StateFits h.state) where
  front_of : front_in (bytes_in 32 0 (held_bytes h)) ≡ h.front
  unfolding held_bytes
  front_of = ap front_in (bytes_piece 0 (held_pieces h) (held_sized h z)) ∙ front_back h.front f

  state_of : state_in (bytes_in 32 32 (held_bytes h)) ≡ h.state
  unfolding held_bytes
  state_of = ap state_in (bytes_piece 1 (held_pieces h) (held_sized h z)) ∙ state_back h.state t

  pub closes : (r : Blocks) (x : List ℕ) → CloseAt (held_bytes h) r x → (r ≡ closed_by h.state) × (x ≡ held_bytes (held_after h))
  closes r x c = (
    c.answers ∙ ap closed_by state_of,
    c.holds
        ∙ ap (λ (u : Front). laid_by (held_bytes h) u (state_in (bytes_in 32 32 (held_bytes h)))) front_of
        ∙ ap (laid_by (held_bytes h) h.front) state_of
        ∙ laid_held h (front_by h.front h.state) (state_by h.state) z,
  )

-- The line's record.

laid_line : (a b c x y : List ℕ) → length a ≡ 32 → length b ≡ 32 → length c ≡ 48 → length x ≡ 32 → length y ≡ 48
    → laid (laid (joined (piece 32 a ∷ piece 32 b ∷ piece 48 c ∷ [])) 0 x) 64 y ≡ joined (piece 32 x ∷ piece 32 b ∷ piece 48 y ∷ [])
laid_line a b c x y p q r u v =
    ap (λ (l : List ℕ). laid l 64 y) (laid_piece 0 (piece 32 a ∷ piece 32 b ∷ piece 48 c ∷ []) x (p, (q, (r, tt))) (omega arith) u)
    ∙ laid_piece 2 (piece 32 x ∷ piece 32 b ∷ piece 48 c ∷ []) y (u, (q, (r, tt))) (omega arith) v

line_opened : (s : Supervisor)
    → opened_in (joined (line_pieces s)) (record { k = s.settings.k; seconds = s.seconds + 1 }) ≡ joined (line_pieces (next_second s))
unfolding opened_in next_second
line_opened s =
    let head : Head = record { k = s.settings.k; seconds = s.seconds + 1 } in
    laid_line (head_bytes (line_head s)) (align_bytes s.layers.align) (flat (counts_of s.second)) (head_bytes head) (flat (counts_of fresh_second))
    refl refl (counts_long s) refl (counts_long (next_second s))

-- The numbers of a supervisor in its ranges fit.

-- the path has no dIAE and no dBIAE, so its values are closed as they are
pub in_mark : (s : Supervisor) → Ranged s → InMark s
unfolding next_second closed_of discard_of
in_mark s r =
    let a = arrays_of s r in
    let f = section_fits s r in
    let g = path_fits s r in
    record { section = closes (section_held s) a.section f.0 f.1; path = closes (path_held s) a.path g.0 g.1; line = line_opened s }
