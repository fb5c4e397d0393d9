-- A frame and a mark in sound bytes of line, section and path, part by part, leave the image of the supervisor of the definitions. Assumes nothing.
use Prim.Native.Nat.{ℕ, ◌+◌}
use mathlib.Core.Path.{◌≡◌, refl, sym, ap, ◌∙◌}
use mathlib.Core.Bool.{Bool, true, false, ◌||◌}
use mathlib.Core.List.{List, [], ◌∷◌, ◌++◌, append_assoc, append-nil}
use native.Mathlib.Omega.{arith}
use lib.ListN.{length, get_or, take, drop}
use Rattle.codec.specs.Pieces.{Piece, piece, joined, Sized}
use Rattle.codec.proofs.Pieces.{length_joined}
use Rattle.words.specs.Words.{flat, words_in}
use Rattle.overhead.specs.Overhead.{overhead_of}
use Rattle.overhead.specs.declared.Overhead.{Overhead}
use Rattle.causes.specs.Causes.{ssf_of, tim_acts}
use Rattle.lookup.specs.Lookup.{report_raised, report_by_table}
use Rattle.causes.specs.declared.Standing.{Standing}
use Rattle.causes.specs.declared.SectionStands.{SectionStands}
use Rattle.causes.specs.declared.Report.{Report}
use Rattle.second.specs.declared.Blocks.{Blocks}
use Rattle.second.specs.Second.{closed_of, figures_of}
use Rattle.supervisor.specs.declared.Supervisor.{Supervisor}
use Rattle.supervisor.specs.Supervisor.{stands_after, frame_of, next_second}
use Rattle.history.specs.Ranges.{Ranged}
use Rattle.history.proofs.Ranges.{layer_in}
use Rattle.frame.specs.Layers.{layers_of, section_of, path_of}
use Rattle.ranges.specs.Sound.{sound}
use Rattle.numbers.specs.Numbers.{head_bytes, align_bytes}
use Rattle.numbers.specs.Held.{held_bytes}
use Rattle.image.specs.Image.{line_head, counts_of, line_pieces, section_held, path_held, bytes_of, load_of, Sizes, Arrays}
use Rattle.image.proofs.Bytes.{counts_long, held_long}
use Rattle.image.proofs.Ranges.{arrays_of, same_ranges, round_trip}
use Rattle.place.specs.declared.LineFrame.{LineFrame}
use Rattle.place.specs.declared.PathFrame.{PathFrame}
use Rattle.place.specs.Place.{LineAt, SectionAt, PathAt, tallied_in, CloseAt, opened_in}
use Rattle.cycle.proofs.Parts.{lent, back}
use Rattle.records.specs.Records.{line_front, InFrame, InMark}
use Rattle.records.proofs.Frames.{in_frame_lem}
use Rattle.records.proofs.Marks.{in_mark}
use Rattle.card.specs.declared.Layered.{Layered}
use Rattle.card.specs.declared.Reported.{Reported}
use Rattle.card.specs.Calls.{unfiled, layered_of, reported_of, figures_at}

-- The image by the parts of a frame: the line's front, the open second's words, the section, the path.

abbrev four_of : List ℕ → List ℕ → List ℕ → List ℕ → List Piece
four_of a c s p = piece 64 a ∷ piece 48 c ∷ piece 288 s ∷ piece 288 p ∷ []

abbrev four : Supervisor → List Piece
four s = four_of (line_front s) (flat (counts_of s.second)) (held_bytes (section_held s)) (held_bytes (path_held s))

four_is : (s : Supervisor) → bytes_of s ≡ joined (four s)
unfolding bytes_of
four_is s =
    let c : List ℕ = flat (counts_of s.second) in
    let x : List ℕ = held_bytes (section_held s) in
    let p : List ℕ = held_bytes (path_held s) in
    ap (λ (r : List ℕ). head_bytes (line_head s) ++ (align_bytes s.layers.align ++ r))
    (append_assoc c [] (x ++ p) ∙ ap (λ (r : List ℕ). c ++ (x ++ r)) (sym (append-nil p)))

line_long : (s : Supervisor) → length (joined (line_pieces s)) ≡ 112
line_long s = length_joined (line_pieces s) (refl, (refl, (counts_long s, tt)))

four_sized : (s : Supervisor) → Arrays s → Sized (four s)
four_sized s a = (refl, (counts_long s, (held_long (section_held s) a.section, (held_long (path_held s) a.path, tt))))

-- what sound bytes are
module _ (l : List ℕ) (e : sound l ≡ true) where
  pub ranged : Ranged (load_of l)
  ranged = same_ranges.untested l e

  stays : l ≡ bytes_of (load_of l)
  stays = sym (round_trip.stays l e)

-- A frame: its layers, then the frame is filed.

module _ (s : Supervisor) (r : Ranged s) (overhead : List ℕ) (flags sm pm : ℕ) where
  section_sizes : Sizes (section_held (frame_of s overhead flags sm pm))
  unfolding frame_of layers_of section_of
  section_sizes =
      let i = layer_in s.layers.section.layer _ _ _ _ _ r.layers.section.layer in
      record { accepted = i.accepted; gathered = i.gathered; previous = i.previous; names = r.settings.section.names }

  path_sizes : Sizes (path_held (frame_of s overhead flags sm pm))
  unfolding frame_of layers_of path_of
  path_sizes =
      let i = layer_in s.layers.path.layer _ _ _ _ _ r.layers.path.layer in
      record { accepted = i.accepted; gathered = i.gathered; previous = i.previous; names = r.settings.path.names }

  pub frame_sizes : Arrays (frame_of s overhead flags sm pm)
  frame_sizes = record { section = section_sizes; path = path_sizes }

module _ (l : List ℕ) (e : sound l ≡ true) (overhead : List ℕ) (flags sm pm : ℕ) (o : Overhead) (a : LineFrame) (ssf acts : Bool) (st : SectionStands) (pt : PathFrame)
    (x1 x2 x3 : List ℕ) where
  abbrev l1 : List ℕ
  l1 = x1 ++ drop 64 l

  abbrev l2 : List ℕ
  l2 = take 112 l1 ++ (x2 ++ drop 288 (drop 112 l1))

  abbrev l3 : List ℕ
  l3 = take 400 l2 ++ (x3 ++ drop 288 (drop 400 l2))

  pub layers_are : o ≡ overhead_of overhead → LineAt (take 64 l) o.four o.three o.mfas flags a x1 → ssf ≡ ssf_of a.line
      → SectionAt (take 288 (drop 112 l1)) ssf a.multi o.section sm st x2 → acts ≡ tim_acts st.tim st.disabled
      → PathAt (take 288 (drop 400 l2)) (ssf || acts) a.multi o.path pm pt x3
      → (◌≡◌ {A = Layered} (record { standing = record { line = a.line; section = st; path = pt.stands }; raised = pt.raised; multi = a.multi }) (layered_of (load_of l) overhead flags sm pm))
      × (l3 ≡ unfiled (load_of l) (frame_of (load_of l) overhead flags sm pm))
  layers_are eo hl es hs ea hp =
      let s : Supervisor = load_of l in
      let r : Ranged s = ranged l e in
      let t : Supervisor = frame_of s overhead flags sm pm in
      let d : Standing = stands_after s overhead flags in
      let f : InFrame s overhead flags sm pm = in_frame_lem s r overhead flags sm pm in
      let C : List ℕ = flat (counts_of s.second) in
      let S : List ℕ = held_bytes (section_held s) in
      let P : List ℕ = held_bytes (path_held s) in
      let i0 : l ≡ joined (four s) = stays l e ∙ four_is s in
      let z0 : Sized (four s) = four_sized s (arrays_of s r) in
      let b0 : take 64 l ≡ line_front s = lent 0 (four s) l i0 z0 in
      let L = f.line a x1 (rw (b0, eo) at hl) in
      let ps : List Piece = four_of x1 C S P in
      let i1 : l1 ≡ joined ps = back 0 (four s) l x1 i0 z0 (omega arith) in
      let z1 : Sized ps = (ap length L.1, z0.1) in
      let b1 : take 288 (drop 112 l1) ≡ S = lent 2 ps l1 i1 z1 in
      let q : ssf ≡ ssf_of d.line = es ∙ ap ssf_of L.0.0 in
      let X = f.section st x2 (rw (b1, q, L.0.1, eo) at hs) in
      let qs : List Piece = four_of x1 C x2 P in
      let i2 : l2 ≡ joined qs = back 2 ps l1 x2 i1 z1 (omega arith) in
      let n2 : length x2 ≡ 288 = ap length X.1 ∙ held_long (section_held t) (section_sizes s r overhead flags sm pm) in
      let z2 : Sized qs = (z1.0, (z1.1.0, (n2, (z0.1.1.1.0, tt)))) in
      let b2 : take 288 (drop 400 l2) ≡ P = lent 3 qs l2 i2 z2 in
      let u : acts ≡ tim_acts d.section.tim d.section.disabled = ea ∙ ap (λ (v : SectionStands). tim_acts v.tim v.disabled) X.0 in
      let Y = f.path pt x3 (rw (b2, q, u, L.0.1, eo) at hp) in
      let i3 : l3 ≡ joined (four_of x1 C x2 x3) = back 3 qs l2 x3 i2 z2 (omega arith) in
      (rw (L.0.0, L.0.1, X.0, Y.0), i3 ∙ rw (L.1, X.1, Y.1))

module _ (l : List ℕ) (e : sound l ≡ true) (overhead : List ℕ) (flags sm pm : ℕ) (a : Layered) (rep : Report) (l3 x4 : List ℕ) where
  abbrev l4 : List ℕ
  l4 = take 64 l3 ++ (x4 ++ drop 48 (drop 64 l3))

  pub filed_is : a ≡ layered_of (load_of l) overhead flags sm pm → l3 ≡ unfiled (load_of l) (frame_of (load_of l) overhead flags sm pm)
      → rep ≡ report_raised a.raised a.standing sm pm → x4 ≡ tallied_in (take 48 (drop 64 l3)) rep.head
      → (◌≡◌ {A = Reported} (record { report = rep; multi = a.multi }) (reported_of (load_of l) overhead flags sm pm))
      × (l4 ≡ bytes_of (frame_of (load_of l) overhead flags sm pm))
  unfolding report_raised
  filed_is ed i3 er ht =
      let s : Supervisor = load_of l in
      let r : Ranged s = ranged l e in
      let t : Supervisor = frame_of s overhead flags sm pm in
      let C : List ℕ = flat (counts_of s.second) in
      let S : List ℕ = held_bytes (section_held t) in
      let P : List ℕ = held_bytes (path_held t) in
      let ps : List Piece = four_of (line_front t) C S P in
      let z3 : Sized ps = (refl, (counts_long s, (held_long (section_held t) (section_sizes s r overhead flags sm pm), (held_long (path_held t) (path_sizes s r overhead flags sm pm), tt)))) in
      let b3 : take 48 (drop 64 l3) ≡ C = lent 1 ps l3 i3 z3 in
      let v : rep ≡ report_by_table (stands_after s overhead flags) sm pm = er ∙ ap (λ (x : Layered). report_raised x.raised x.standing sm pm) ed in
      let h : x4 ≡ flat (counts_of t.second) = rw (b3, v) at ht ∙ (in_frame_lem s r overhead flags sm pm).tally in
      let i4 : l4 ≡ joined (four_of (line_front t) x4 S P) = back 1 ps l3 x4 i3 z3 (omega arith) in
      (rw (v, ed), i4 ∙ ap (λ (x : List ℕ). joined (four_of (line_front t) x S P)) h ∙ sym (four_is t))

-- A mark.

pub marked_sizes : (s : Supervisor) → Ranged s → Arrays (next_second s)
unfolding next_second
marked_sizes s r = record {
  section = record { accepted = r.layers.section.layer.accepted; gathered = r.layers.section.layer.gathered; previous = r.layers.section.layer.previous; names = r.settings.section.names };
  path = record { accepted = r.layers.path.layer.accepted; gathered = r.layers.path.layer.gathered; previous = r.layers.path.layer.previous; names = r.settings.path.names };
}

module _ (l : List ℕ) (e : sound l ≡ true) (k number : ℕ) (c : List ℕ) (sb pb : Blocks) (f : List ℕ) (x1 x2 x3 : List ℕ) where
  abbrev m1 : List ℕ
  m1 = take 112 l ++ (x1 ++ drop 288 (drop 112 l))

  abbrev m2 : List ℕ
  m2 = take 400 m1 ++ (x2 ++ drop 288 (drop 400 m1))

  abbrev m3 : List ℕ
  m3 = x3 ++ drop 112 m2

  abbrev three : List ℕ → List ℕ → List ℕ → List Piece
  three a s p = piece 112 a ∷ piece 288 s ∷ piece 288 p ∷ []

  three_is : (s : Supervisor) → bytes_of s ≡ joined (three (joined (line_pieces s)) (held_bytes (section_held s)) (held_bytes (path_held s)))
  unfolding bytes_of
  three_is s = ap (λ (r : List ℕ). joined (line_pieces s) ++ (held_bytes (section_held s) ++ r)) (sym (append-nil (held_bytes (path_held s))))

  pub mark_is : k ≡ (load_of l).settings.k → number ≡ (load_of l).seconds + 1 → c ≡ words_in 12 64 l
      → CloseAt (take 288 (drop 112 l)) sb x1 → CloseAt (take 288 (drop 400 m1)) pb x2 → x3 ≡ opened_in (take 112 m2) (record { k = k; seconds = number })
      → f ≡ figures_of number (record { frames = record { 0 = get_or c 0 0 }; heads = get_or c 1 0 ∷ get_or c 2 0 ∷ get_or c 3 0 ∷ get_or c 4 0 ∷ get_or c 5 0 ∷ get_or c 6 0 ∷ get_or c 7 0 ∷ get_or c 8 0 ∷ get_or c 9 0 ∷ get_or c 10 0 ∷ []; section = sb; path = pb; iae = false; biae = false })
      → (f ≡ figures_at (load_of l)) × (m3 ≡ bytes_of (next_second (load_of l)))
  unfolding load_of closed_of
  mark_is ek en ec hs hp ho ef =
      let s : Supervisor = load_of l in
      let t : Supervisor = next_second s in
      let y = arrays_of s (ranged l e) in
      let z : Arrays t = marked_sizes s (ranged l e) in
      let g : InMark s = in_mark s (ranged l e) in
      let A : List ℕ = joined (line_pieces s) in
      let S : List ℕ = held_bytes (section_held s) in
      let P : List ℕ = held_bytes (path_held s) in
      let ps : List Piece = three A S P in
      let i0 : l ≡ joined ps = stays l e ∙ three_is s in
      let z0 : Sized ps = (line_long s, (held_long (section_held s) y.section, (held_long (path_held s) y.path, tt))) in
      let b0 : take 288 (drop 112 l) ≡ S = lent 1 ps l i0 z0 in
      let X = g.section sb x1 (rw b0 at hs) in
      let qs : List Piece = three A x1 P in
      let n1 : length x1 ≡ 288 = ap length X.1 ∙ held_long (section_held t) z.section in
      let i1 : m1 ≡ joined qs = back 1 ps l x1 i0 z0 (omega arith) in
      let z1 : Sized qs = (z0.0, (n1, (z0.1.1.0, tt))) in
      let b1 : take 288 (drop 400 m1) ≡ P = lent 2 qs m1 i1 z1 in
      let Y = g.path pb x2 (rw b1 at hp) in
      let n2 : length x2 ≡ 288 = ap length Y.1 ∙ held_long (path_held t) z.path in
      let rs : List Piece = three A x1 x2 in
      let i2 : m2 ≡ joined rs = back 2 qs m1 x2 i1 z1 (omega arith) in
      let z2 : Sized rs = (z0.0, (n1, (n2, tt))) in
      let b2 : take 112 m2 ≡ A = lent 0 rs m2 i2 z2 in
      let h : x3 ≡ joined (line_pieces t) = rw (b2, ek, en) at ho ∙ g.line in
      let i3 : m3 ≡ joined (three x3 x1 x2) = back 0 rs m2 x3 i2 z2 (omega arith) in
      (rw (en, ec, X.0, Y.0) at ef, i3 ∙ rw (h, X.1, Y.1) (sym (three_is t)))
