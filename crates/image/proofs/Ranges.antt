-- The ranges of the bytes are those of the definitions; a supervisor in its ranges is read back from its image, and sound bytes are the
-- image of what is read from them. Assumes nothing.
use mathlib.Core.Path.{◌≡◌, refl, sym, ap, ◌∙◌}
use mathlib.Core.Bool.{true}
use mathlib.Core.List.{List, [], ◌∷◌, ◌++◌, append-nil, append_assoc}
use Prim.Native.Nat.{ℕ, ◌+◌, ◌%◌, ◌≤◌, ◌<◌}
use native.Mathlib.Omega.{arith}
use lib.ListN.{length, get_or, take, drop, replicate, length-append}
use lib.Seq.{get_or-take, take_at}
use borrow.Author.Tests.{le-leb, eq-eqb}
use Rattle.codec.specs.Over.{bytes_in}
use Rattle.codec.specs.Pieces.{Piece, piece, joined, Sized, offset, width_at, bytes_at}
use Rattle.codec.proofs.Overs.{bytes_room, length_in}
use Rattle.codec.proofs.Pieces.{skip, bytes_piece}
use Rattle.words.specs.Words.{flat, word_at, words_of, words_in}
use Rattle.words.proofs.Words.{word_at_drop, words_room, word_back}
use Rattle.words.proofs.Ranges.{holds, words_back}
use Rattle.ranges.specs.Sound.{below, counts_ranged, line_ranged, layer_ranged, sound}
use Rattle.ranges.proofs.Below.{below_append, flag_leb, byte_leb}
use Rattle.alignment.specs.declared.Alignment.{Alignment}
use Rattle.layer.specs.declared.Layer.{Layer}
use Rattle.settings.specs.declared.Options.{Options}
use Rattle.second.specs.declared.Second.{Second}
use Rattle.supervisor.specs.declared.Supervisor.{Supervisor}
use Rattle.settings.specs.Ranges.{OptionsIn}
use Rattle.history.specs.Ranges.{AlignmentIn, LayerIn, SectionIn, PathIn, BlocksIn, SecondIn, Ranged}
use Rattle.history.proofs.Ranges.{most_at}
use Rattle.numbers.specs.declared.Head.{Head}
use Rattle.numbers.specs.declared.State.{State}
use Rattle.numbers.specs.Numbers.{head_bytes, head_in, align_bytes, align_in, front_bytes, state_bytes}
use Rattle.numbers.specs.Held.{Held, held_in, held_bytes, options_from, layer_from}
use Rattle.numbers.proofs.Strips.{both, AlignFits, FrontFits, StateFits, head_back, align_back, from_all, held_back}
use Rattle.image.specs.Image.{counts_of, line_head, line_pieces, section_held, path_held, bytes_of, supervisor_from, load_of, Arrays, held_with}
use Rattle.image.specs.Ranges.{SameRanges, RoundTrip}
use Rattle.image.proofs.Bytes.{counts_long, held_sized, held_long, length_bytes}
use Rattle.image.proofs.Parts.{bytes_in_bytes, Layered, Sounds, sounds, sound_long, head_greatest, align_greatest, front_greatest, section_state, path_state, first_of, second_of_lem, first_strip, second_strip, head_tops, align_tops, front_tops_at, state_tops_at, section_tops, path_tops, counts_most, cut_three, cut_line, section_bytes, path_bytes, head_held, align_held, counts_held, section_held_lem, path_held_lem, head_stays, align_stays, counts_stay, section_stays, path_stays}

-- From sound bytes to the definitions' ranges.

-- a word in the first strip of a band, and in the second
word_front : (x w : List ℕ) (k : ℕ) → x ≡ take 32 w → k + 3 < 32 → word_at x k ≡ word_at w k
word_front x w k e h =
    ap (λ (y : List ℕ). word_at y k) e
    ∙ omega (arith, get_or-take 32 w k 0 (omega arith), get_or-take 32 w (k + 1) 0 (omega arith), get_or-take 32 w (k + 2) 0 (omega arith), get_or-take 32 w (k + 3) 0 (omega arith))

word_rest : (x w : List ℕ) (k : ℕ) → x ≡ drop 32 w → word_at x k ≡ word_at w (32 + k)
word_rest x w k e = ap (λ (y : List ℕ). word_at y k) e ∙ word_at_drop w 32 k

byte_front : (x w : List ℕ) (k : ℕ) → x ≡ take 32 w → k < 32 → get_or x k 0 ≡ get_or w k 0
byte_front x w k e h = ap (λ (y : List ℕ). get_or y k 0) e ∙ get_or-take 32 w k 0 h

-- a layer's record at a place, whatever its state's table is
module _ (o : ℕ) (st l : List ℕ) (h : o + 288 ≤ length l) (t : Layered (front_greatest ++ st) (bytes_in 64 o l)) where
  pub options_at : OptionsIn (options_from (held_in (bytes_in 288 o l)))
  unfolding held_in
  options_at =
      let x : List ℕ = bytes_in 32 0 (bytes_in 288 o l) in
      let e : x ≡ take 32 (bytes_in 64 o l) = first_strip o 288 l h (omega arith) in
      let f = front_tops_at o st l h t.bytes in
      let thr : word_at x 0 ≡ word_at (bytes_in 64 o l) 0 = word_front x (bytes_in 64 o l) 0 e (omega arith) in
      record {
        thr_least = omega (arith, thr, t.thr_least);
        thr = omega (arith, thr, t.thr);
        degm_least = omega (arith, byte_front x (bytes_in 64 o l) 4 e (omega arith), t.degm);
        degm = f 4;
        mode = f 5;
        names = length_in 32 256 (bytes_in 288 o l);
      }

  pub layer_at_lem : get_or st 2 0 ≡ 3 → get_or st 4 0 ≡ 4 → LayerIn (layer_from (held_in (bytes_in 288 o l)))
  unfolding held_in
  layer_at_lem p q =
      let r : List ℕ = bytes_in 288 o l in
      let f = front_tops_at o st l h t.bytes in
      let g = state_tops_at o st l h t.bytes in
      record {
        equal = omega (arith, g 2);
        bdi = omega (arith, g 4);
        deg = f 8;
        accepted = length_in 64 64 r;
        gathered = length_in 64 128 r;
        previous = length_in 64 192 r;
      }

  pub blocks_at : BlocksIn (held_in (bytes_in 288 o l)).state.blocks
  unfolding held_in
  blocks_at =
      let x : List ℕ = bytes_in 32 32 (bytes_in 288 o l) in
      let e : x ≡ drop 32 (bytes_in 64 o l) = second_strip o 288 l h (omega arith) in
      record {
        near = omega (arith, word_rest x (bytes_in 64 o l) 24 e, t.near);
        far = omega (arith, word_rest x (bytes_in 64 o l) 28 e, t.far);
        sum = omega (arith, word_rest x (bytes_in 64 o l) 20 e, t.sum);
      }

untested_of : (l : List ℕ) → sound l ≡ true → Ranged (load_of l)
unfolding load_of held_in
untested_of l e =
    let s : Sounds l = sounds l e in
    let n : length l ≡ 688 = sound_long l e in
    let w : List ℕ = bytes_in 64 0 l in
    let x : List ℕ = bytes_in 32 0 l in
    let y : List ℕ = bytes_in 32 32 l in
    let p : x ≡ take 32 w = first_of l (omega arith) in
    let q : y ≡ drop 32 w = second_of_lem l (omega arith) in
    let h = head_tops l e in
    let a = align_tops l e in
    let u = section_tops l e in
    let v = path_tops l e in
    let m = counts_most l e in
    record {
      settings = record {
        k_least = omega (arith, byte_front x w 0 p (omega arith), s.line.k);
        k = h 0;
        section = options_at 112 section_state l (omega arith) s.section;
        path = options_at 400 path_state l (omega arith) s.path;
      };
      layers = record {
        align = record {
          misses = a 2;
          total = omega (arith, word_rest y w 20 q, s.line.total);
          good = omega (arith, word_rest y w 24 q, s.line.good);
          number = a 4;
          mismatches = a 5;
          previous = a 7;
          lom = omega (arith, word_rest y w 28 q, s.line.lom);
        };
        section = record { layer = layer_at_lem 112 section_state l (omega arith) s.section refl refl; iae = u 6; biae = u 8 };
        path = record { layer = layer_at_lem 400 path_state l (omega arith) s.path refl refl; value = v 9; run = v 10; accepted = v 12 };
      };
      second = record {
        frames = m 0;
        ten = refl;
        heads = (m 1, (m 2, (m 3, (m 4, (m 5, (m 6, (m 7, (m 8, (m 9, (m 10, tt))))))))));
        section = blocks_at 112 section_state l (omega arith) s.section;
        path = blocks_at 400 path_state l (omega arith) s.path;
      };
      seconds = omega (arith, h 28, h 29, h 30, h 31);
    }

-- And back: each strip against its table.

head_tested : (h : Head) → h.k ≤ 3 → below head_greatest (head_bytes h) ≡ true
unfolding below
head_tested h i = simp (le-leb h.k 3 i, byte_leb)

align_tested : (a : Alignment) → AlignmentIn a → below align_greatest (align_bytes a) ≡ true
unfolding below
align_tested a i =
    let m : a.framing.misses % 256 ≤ 4 = omega arith in
    let n : a.multi.misses % 256 ≤ 4 = omega arith in
    simp (
      flag_leb,
      byte_leb,
      le-leb (a.framing.misses % 256) 4 m,
      le-leb (a.multi.misses % 256) 4 n,
      le-leb a.multi.number 255 i.number,
      le-leb a.multi.previous 255 i.previous,
    )

front_tested : (p : Options) (l : Layer) (t : State) → OptionsIn p → LayerIn l → below front_greatest (front_bytes (held_with p l t).front) ≡ true
unfolding below
front_tested p l t i j =
    let m : p.degm % 256 ≤ 10 = omega arith in
    let n : l.deg.run % 256 ≤ 9 = omega arith in
    simp (flag_leb, byte_leb, le-leb (p.degm % 256) 10 m, le-leb p.mode 3 i.mode, le-leb (l.deg.run % 256) 9 n)

section_tested : (s : Supervisor) → SectionIn s.layers.section → below section_state (state_bytes (section_held s).state) ≡ true
unfolding below
section_tested s i =
    let t = s.layers.section in
    let a : t.layer.equal % 256 ≤ 3 = omega arith in
    let b : t.layer.bdi.run % 256 ≤ 4 = omega arith in
    let c : t.iae.run % 256 ≤ 4 = omega arith in
    let d : t.biae.run % 256 ≤ 2 = omega arith in
    simp (
      flag_leb,
      byte_leb,
      le-leb (t.layer.equal % 256) 3 a,
      le-leb (t.layer.bdi.run % 256) 4 b,
      le-leb (t.iae.run % 256) 4 c,
      le-leb (t.biae.run % 256) 2 d,
    )

path_tested : (s : Supervisor) → PathIn s.layers.path → below path_state (state_bytes (path_held s).state) ≡ true
unfolding below
path_tested s i =
    let t = s.layers.path in
    let a : t.layer.equal % 256 ≤ 3 = omega arith in
    let b : t.layer.bdi.run % 256 ≤ 4 = omega arith in
    let c : t.stat.run % 256 ≤ 3 = omega arith in
    simp (
      flag_leb,
      byte_leb,
      le-leb (t.layer.equal % 256) 3 a,
      le-leb (t.layer.bdi.run % 256) 4 b,
      le-leb t.stat.value 7 i.value,
      le-leb (t.stat.run % 256) 3 c,
      le-leb t.stat.accepted 7 i.accepted,
    )

line_tested : (h : Head) (a : Alignment) (c : List ℕ) → 1 ≤ h.k → h.k ≤ 3 → AlignmentIn a → counts_ranged c ≡ true
    → line_ranged (head_bytes h ++ align_bytes a) c ≡ true
unfolding line_ranged
line_tested h a c k m i t =
    rw (
      below_append head_greatest align_greatest (head_bytes h) (align_bytes a) (head_tested h m) (align_tested a i),
      le-leb 1 h.k k,
      word_back a.lof.total (omega arith),
      le-leb a.lof.total 989 i.total,
      word_back a.lof.good (omega arith),
      le-leb a.lof.good 989 i.good,
      word_back a.lom (omega arith),
      le-leb a.lom 989 i.lom,
    ) t

pub layer_tested : (p : Options) (l : Layer) (t : State) (st : List ℕ) → OptionsIn p → LayerIn l → BlocksIn t.blocks → below st (state_bytes t) ≡ true
    → layer_ranged (front_greatest ++ st) (front_bytes (held_with p l t).front ++ state_bytes t) ≡ true
unfolding layer_ranged
layer_tested p l t st i j b e =
    let degm : 2 ≤ p.degm % 256 = omega arith in
    rw (
      below_append front_greatest st (front_bytes (held_with p l t).front) (state_bytes t) (front_tested p l t i j) e,
      le-leb 2 (p.degm % 256) degm,
      word_back p.thr (omega arith),
      le-leb 1 p.thr i.thr_least,
      le-leb p.thr 329492 i.thr,
      word_back t.blocks.sum.0 (omega arith),
      le-leb t.blocks.sum.0 3200000 b.sum,
      word_back t.blocks.near.0 (omega arith),
      le-leb t.blocks.near.0 400000 b.near,
      word_back t.blocks.far.0 (omega arith),
      le-leb t.blocks.far.0 400000 b.far,
    )

-- the counts
counts_tested : (c : Second) → SecondIn c → counts_ranged (counts_of c) ≡ true
counts_tested c i =
    let m : (k : ℕ) → get_or c.heads k 0 ≤ 400000 = λ k. most_at 400000 c.heads k i.heads in
    holds _ _ _ (omega (arith, m 0, m 1, m 2, m 3, m 4, m 5, m 6, m 7, m 8, m 9))

counts_bytes : (c : Second) → below (replicate 48 255) (flat (counts_of c)) ≡ true
unfolding below flat
counts_bytes c = simp byte_leb

-- The image in its five parts.

pub arrays_of : (s : Supervisor) → Ranged s → Arrays s
arrays_of s r = record {
  section = record {
    accepted = r.layers.section.layer.accepted;
    gathered = r.layers.section.layer.gathered;
    previous = r.layers.section.layer.previous;
    names = r.settings.section.names;
  };
  path = record {
    accepted = r.layers.path.layer.accepted;
    gathered = r.layers.path.layer.gathered;
    previous = r.layers.path.layer.previous;
    names = r.settings.path.names;
  };
}

abbrev parts_of : Supervisor → List Piece
parts_of s =
    piece 32 (head_bytes (line_head s)) ∷ piece 32 (align_bytes s.layers.align) ∷ piece 48 (flat (counts_of s.second))
    ∷ piece 288 (held_bytes (section_held s)) ∷ piece 288 (held_bytes (path_held s)) ∷ []

joined_parts : (s : Supervisor) → joined (parts_of s) ≡ bytes_of s
unfolding bytes_of
joined_parts s = simp append-nil

pub band_of : (a b r : List ℕ) → length a ≡ 32 → length b ≡ 32 → bytes_in 64 0 (a ++ (b ++ r)) ≡ a ++ b
band_of a b r h k =
    let n : length (a ++ b) ≡ 64 = simp length-append (omega arith) in
    ap (bytes_in 64 0) (sym (append_assoc a b r))
    ∙ bytes_room 64 0 ((a ++ b) ++ r) (simp (length-append (a ++ b) r) (omega arith))
    ∙ take_at (a ++ b) r 64 n

from_parts : {h k : Head} {a b : Alignment} {c d : List ℕ} {x y z w : Held} → h ≡ k → a ≡ b → c ≡ d → x ≡ y → z ≡ w
    → supervisor_from h a c x z ≡ supervisor_from k b d y w
from_parts p q r t u = rw (p, q, r, t, u)

module _ (s : Supervisor) (r : Ranged s) where
  arrays : Arrays s
  arrays = arrays_of s r

  long : length (bytes_of s) ≡ 688
  long = length_bytes s arrays

  parts_sized : Sized (parts_of s)
  parts_sized = (refl, (refl, (counts_long s, (held_long (section_held s) arrays.section, (held_long (path_held s) arrays.path, tt)))))

  part_at : (i : ℕ) → bytes_in (width_at i (parts_of s)) (offset i (parts_of s)) (bytes_of s) ≡ bytes_at i (parts_of s)
  part_at i = ap (bytes_in (width_at i (parts_of s)) (offset i (parts_of s))) (sym (joined_parts s)) ∙ bytes_piece i (parts_of s) parts_sized

  counts_at : words_in 12 64 (bytes_of s) ≡ counts_of s.second
  counts_at =
      let rest : List ℕ = held_bytes (section_held s) ++ (held_bytes (path_held s) ++ []) in
      words_room 12 64 (bytes_of s) (omega (arith, long))
      ∙ ap (λ (b : List ℕ). words_of 12 (drop 64 b)) (sym (joined_parts s))
      ∙ ap (words_of 12) (skip 2 (parts_of s) parts_sized)
      ∙ words_back _ _ (counts_of s.second) rest refl (counts_tested s.second r.second)

  -- a layer's band, and the line's
  layer_band : (o : ℕ) (h : Held) → o + 288 ≤ 688 → bytes_in 288 o (bytes_of s) ≡ held_bytes h
      → bytes_in 64 o (bytes_of s) ≡ front_bytes h.front ++ state_bytes h.state
  unfolding held_bytes
  layer_band o h k e =
      let z : o ≡ o + 0 = omega arith in
      let rest : List ℕ = h.accepted ++ (h.gathered ++ (h.previous ++ (h.names ++ []))) in
      ap (λ (i : ℕ). bytes_in 64 i (bytes_of s)) z
      ∙ sym (bytes_in_bytes 64 0 288 o (bytes_of s) (omega (arith, long)) (omega arith))
      ∙ ap (bytes_in 64 0) e
      ∙ band_of (front_bytes h.front) (state_bytes h.state) rest refl refl

  line_band : bytes_in 64 0 (bytes_of s) ≡ head_bytes (line_head s) ++ align_bytes s.layers.align
  line_band =
      let rest : List ℕ = flat (counts_of s.second) ++ (held_bytes (section_held s) ++ (held_bytes (path_held s) ++ [])) in
      ap (bytes_in 64 0) (sym (joined_parts s)) ∙ band_of (head_bytes (line_head s)) (align_bytes s.layers.align) rest refl refl

  tested_of : sound (bytes_of s) ≡ true
  unfolding sound
  tested_of =
      rw (
        eq-eqb (length (bytes_of s)) 688 long,
        part_at 2,
        counts_bytes s.second,
        line_band,
        counts_at,
        line_tested (line_head s) s.layers.align (counts_of s.second) r.settings.k_least r.settings.k r.layers.align (counts_tested s.second r.second),
        layer_band 112 (section_held s) (omega arith) (part_at 3),
        layer_tested s.settings.section s.layers.section.layer (section_held s).state section_state r.settings.section r.layers.section.layer r.second.section (section_tested s r.layers.section),
        layer_band 400 (path_held s) (omega arith) (part_at 4),
        layer_tested s.settings.path s.layers.path.layer (path_held s).state path_state r.settings.path r.layers.path.layer r.second.path (path_tested s r.layers.path),
      )

  -- Read back.

  section_back : held_in (bytes_in 288 112 (bytes_of s)) ≡ section_held s
  section_back =
      let f : FrontFits (section_held s).front = record { thr = omega arith; degm = omega arith; deg = omega arith } in
      let t : StateFits (section_held s).state = record {
        equal = omega arith;
        bdi = omega arith;
        iae = omega arith;
        biae = omega arith;
        stat = omega arith;
        near = omega arith;
        far = omega arith;
        sum = omega arith;
      } in
      ap held_in (part_at 3) ∙ held_back (section_held s) f t (held_sized (section_held s) arrays.section)

  path_back : held_in (bytes_in 288 400 (bytes_of s)) ≡ path_held s
  path_back =
      let f : FrontFits (path_held s).front = record { thr = omega arith; degm = omega arith; deg = omega arith } in
      let t : StateFits (path_held s).state = record {
        equal = omega arith;
        bdi = omega arith;
        iae = omega arith;
        biae = omega arith;
        stat = omega arith;
        near = omega arith;
        far = omega arith;
        sum = omega arith;
      } in
      ap held_in (part_at 4) ∙ held_back (path_held s) f t (held_sized (path_held s) arrays.path)

  back_of : load_of (bytes_of s) ≡ s
  unfolding load_of
  back_of =
      let a : AlignFits s.layers.align = record { misses = omega arith; mismatches = omega arith; total = omega arith; good = omega arith; lom = omega arith } in
      from_parts (ap head_in (part_at 0) ∙ head_back (line_head s) (omega arith)) (ap align_in (part_at 1) ∙ align_back s.layers.align a) counts_at section_back path_back
      ∙ rw (from_all 10 s.second.heads r.second.ten)

-- Sound bytes stay.

stays_of : (l : List ℕ) → sound l ≡ true → bytes_of (load_of l) ≡ l
unfolding bytes_of
stays_of l e =
    let n : length l ≡ 688 = sound_long l e in
    let line : joined (line_pieces (load_of l)) ≡ take 32 l ++ (take 32 (drop 32 l) ++ (take 48 (drop 64 l) ++ [])) =
    both (ap head_bytes (head_held l) ∙ sym (head_stays l e))
    (both (ap align_bytes (align_held l) ∙ sym (align_stays l e)) (both (ap flat (counts_held l e) ∙ sym (counts_stay l e)) refl)) in
    both (line ∙ ap (λ (x : List ℕ). take 32 l ++ (take 32 (drop 32 l) ++ x)) (append-nil (take 48 (drop 64 l))) ∙ sym (cut_line l n))
    (both (ap held_bytes (section_held_lem l e) ∙ section_stays l e ∙ section_bytes l n) (ap held_bytes (path_held_lem l e) ∙ path_stays l e ∙ path_bytes l n))
    ∙ sym (cut_three l n)

pub same_ranges : SameRanges
same_ranges = record { tested = tested_of; untested = untested_of }

pub round_trip : RoundTrip
round_trip = record { long = long; back = back_of; stays = stays_of }
