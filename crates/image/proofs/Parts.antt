-- What holds part by part of sound bytes: their length, each part's bounds, and that its bytes are those of what is read from it. Assumes
-- nothing.
use mathlib.Core.Path.{◌≡◌, refl, sym, ap, ◌∙◌}
use mathlib.Core.Bool.{Bool, true, false, ◌&&◌, false≢true}
use mathlib.Core.List.{List, [], ◌∷◌, ◌++◌}
use Prim.Native.Nat.{ℕ, zero, suc, ◌+◌, ◌*◌, ◌-◌, ◌≤◌, ◌<◌, zero-le}
use native.Mathlib.Omega.{arith}
use lib.Dec.{eqb, leb}
use lib.ListN.{length, get_or, take, drop, replicate, length-drop, take-append-drop, get_or-replicate}
use lib.Seq.{take_all, take-add, take-take, drop-drop, drop_at, length-take-le, get_or-take, get_or-drop}
use borrow.Author.Tests.{eqb-true, leb-true}
use Rattle.answer.proofs.Cond.{and_left, and_right}
use Rattle.codec.specs.Over.{bytes_in}
use Rattle.codec.proofs.Overs.{bytes_room, length_in}
use Rattle.words.specs.Words.{le4, flat, word_at, words_of, words_in}
use Rattle.words.specs.Ranges.{inside}
use Rattle.words.proofs.Words.{words_room, length_words}
use Rattle.ranges.specs.Sound.{below, line_greatest, counts_ranged, line_ranged, section_greatest, path_greatest, layer_ranged, sound}
use Rattle.ranges.proofs.Below.{below_all, below_front, below_rest}
use Rattle.filter.specs.declared.Filter.{Filter}
use Rattle.filter.specs.declared.Stat.{Stat}
use Rattle.filter.specs.Filter.{quiet}
use Rattle.filter.specs.Stat.{no_stat}
use Rattle.numbers.specs.Numbers.{head_bytes, head_in, align_bytes, align_in}
use Rattle.numbers.specs.Held.{Held, held_in, held_bytes, options_from, layer_from, held_of}
use Rattle.numbers.proofs.Strips as strips
use Rattle.numbers.proofs.Strips.{Tops, both, from, take_from, from_all, word_stays, head_top, align_top, front_top, state_top, held_stays}
use Rattle.image.specs.Image.{counts_of, line_head, section_held, path_held, load_of}

-- The test, taken apart.

-- of a layer's band: each byte at most its greatest, and the bounds of its words
pub record Layered (greatest w : List ℕ) : Type 0 where
  pub bytes : below greatest w ≡ true
  pub degm : 2 ≤ get_or w 4 0
  pub thr_least : 1 ≤ word_at w 0
  pub thr : word_at w 0 ≤ 329492
  pub sum : word_at w 52 ≤ 3200000
  pub near : word_at w 56 ≤ 400000
  pub far : word_at w 60 ≤ 400000

pub record Lined (w c : List ℕ) : Type 0 where
  pub bytes : below line_greatest w ≡ true
  pub k : 1 ≤ get_or w 0 0
  pub total : word_at w 52 ≤ 989
  pub good : word_at w 56 ≤ 989
  pub lom : word_at w 60 ≤ 989
  pub counts : counts_ranged c ≡ true

pub record Sounds (l : List ℕ) : Type 0 where
  pub long : length l ≡ 688
  pub bytes : below (replicate 48 255) (bytes_in 48 64 l) ≡ true
  pub line : Lined (bytes_in 64 0 l) (words_in 12 64 l)
  pub section : Layered section_greatest (bytes_in 64 112 l)
  pub path : Layered path_greatest (bytes_in 64 400 l)

pub layered : (g w : List ℕ) → layer_ranged g w ≡ true → Layered g w
unfolding layer_ranged
layered g w e =
    let a = below g w in
    let b = leb 2 (get_or w 4 0) in
    let c = leb 1 (word_at w 0) in
    let d = leb (word_at w 0) 329492 in
    let s = leb (word_at w 52) 3200000 in
    let n = leb (word_at w 56) 400000 in
    let f = leb (word_at w 60) 400000 in
    let e1 = and_right a (b && (c && (d && (s && (n && f))))) e in
    let e2 = and_right b (c && (d && (s && (n && f)))) e1 in
    let e3 = and_right c (d && (s && (n && f))) e2 in
    let e4 = and_right d (s && (n && f)) e3 in
    let e5 = and_right s (n && f) e4 in
    record {
      bytes = and_left a (b && (c && (d && (s && (n && f))))) e;
      degm = leb-true 2 (get_or w 4 0) (and_left b (c && (d && (s && (n && f)))) e1);
      thr_least = leb-true 1 (word_at w 0) (and_left c (d && (s && (n && f))) e2);
      thr = leb-true (word_at w 0) 329492 (and_left d (s && (n && f)) e3);
      sum = leb-true (word_at w 52) 3200000 (and_left s (n && f) e4);
      near = leb-true (word_at w 56) 400000 (and_left n f e5);
      far = leb-true (word_at w 60) 400000 (and_right n f e5);
    }

lined : (w c : List ℕ) → line_ranged w c ≡ true → Lined w c
unfolding line_ranged
lined w c e =
    let a = below line_greatest w in
    let b = leb 1 (get_or w 0 0) in
    let t = leb (word_at w 52) 989 in
    let g = leb (word_at w 56) 989 in
    let m = leb (word_at w 60) 989 in
    let r = counts_ranged c in
    let e1 = and_right a (b && (t && (g && (m && r)))) e in
    let e2 = and_right b (t && (g && (m && r))) e1 in
    let e3 = and_right t (g && (m && r)) e2 in
    let e4 = and_right g (m && r) e3 in
    record {
      bytes = and_left a (b && (t && (g && (m && r)))) e;
      k = leb-true 1 (get_or w 0 0) (and_left b (t && (g && (m && r))) e1);
      total = leb-true (word_at w 52) 989 (and_left t (g && (m && r)) e2);
      good = leb-true (word_at w 56) 989 (and_left g (m && r) e3);
      lom = leb-true (word_at w 60) 989 (and_left m r e4);
      counts = and_right m r e4;
    }

pub sounds : (l : List ℕ) → sound l ≡ true → Sounds l
unfolding sound
sounds l e =
    let a = eqb (length l) 688 in
    let b = below (replicate 48 255) (bytes_in 48 64 l) in
    let c = line_ranged (bytes_in 64 0 l) (words_in 12 64 l) in
    let s = layer_ranged section_greatest (bytes_in 64 112 l) in
    let p = layer_ranged path_greatest (bytes_in 64 400 l) in
    let e1 = and_right a (b && (c && (s && p))) e in
    let e2 = and_right b (c && (s && p)) e1 in
    let e3 = and_right c (s && p) e2 in
    record {
      long = eqb-true (length l) 688 (and_left a (b && (c && (s && p))) e);
      bytes = and_left b (c && (s && p)) e1;
      line = lined (bytes_in 64 0 l) (words_in 12 64 l) (and_left c (s && p) e2);
      section = layered section_greatest (bytes_in 64 112 l) (and_left s p e3);
      path = layered path_greatest (bytes_in 64 400 l) (and_right s p e3);
    }

pub sound_long : (l : List ℕ) → sound l ≡ true → length l ≡ 688
sound_long l e = (sounds l e).long

-- Bytes within bytes.

drop_take : (i m : ℕ) (x : List ℕ) → i ≤ m → m ≤ length x → drop i (take m x) ≡ take (m - i) (drop i x)
drop_take i m x h k =
    let n : m ≡ i + (m - i) = omega arith in
    ap (λ (j : ℕ). drop i (take j x)) n
    ∙ ap (drop i) (take-add i (m - i) x)
    ∙ drop_at (take i x) (take (m - i) (drop i x)) i (length-take-le i x (omega arith))

pub bytes_in_bytes : (n i m o : ℕ) (l : List ℕ) → o + m ≤ length l → i + n ≤ m → bytes_in n i (bytes_in m o l) ≡ bytes_in n (o + i) l
bytes_in_bytes n i m o l h k =
    let x : List ℕ = drop o l in
    let lx : m ≤ length x = omega (arith, length-drop o l) in
    ap (bytes_in n i) (bytes_room m o l h)
    ∙ bytes_room n i (take m x) (omega (arith, length-take-le m x lx))
    ∙ ap (take n) (drop_take i m x (omega arith) lx)
    ∙ take-take n (m - i) (drop i x) (omega arith)
    ∙ ap (take n) (drop-drop i o l)
    ∙ sym (bytes_room n (o + i) l (omega arith))

-- a band's two strips
pub first_strip : (o m : ℕ) (l : List ℕ) → o + m ≤ length l → 64 ≤ m → bytes_in 32 0 (bytes_in m o l) ≡ take 32 (bytes_in 64 o l)
first_strip o m l h k =
    bytes_in_bytes 32 0 m o l h (omega arith)
    ∙ sym (bytes_in_bytes 32 0 64 o l (omega arith) (omega arith))
    ∙ bytes_room 32 0 (bytes_in 64 o l) (omega (arith, length_in 64 o l))

pub second_strip : (o m : ℕ) (l : List ℕ) → o + m ≤ length l → 64 ≤ m → bytes_in 32 32 (bytes_in m o l) ≡ drop 32 (bytes_in 64 o l)
second_strip o m l h k =
    let w : List ℕ = bytes_in 64 o l in
    let lw : length (drop 32 w) ≡ 32 = length-drop 32 w ∙ ap (λ (j : ℕ). j - 32) (length_in 64 o l) in
    bytes_in_bytes 32 32 m o l h (omega arith)
    ∙ sym (bytes_in_bytes 32 32 64 o l (omega arith) (omega arith))
    ∙ bytes_room 32 32 w (omega (arith, length_in 64 o l))
    ∙ take_all 32 (drop 32 w) (omega arith)

-- and of bytes that start with it
pub first_of : (l : List ℕ) → 64 ≤ length l → bytes_in 32 0 l ≡ take 32 (bytes_in 64 0 l)
first_of l h = sym (bytes_in_bytes 32 0 64 0 l h (omega arith)) ∙ bytes_room 32 0 (bytes_in 64 0 l) (omega (arith, length_in 64 0 l))

pub second_of_lem : (l : List ℕ) → 64 ≤ length l → bytes_in 32 32 l ≡ drop 32 (bytes_in 64 0 l)
second_of_lem l h =
    let w : List ℕ = bytes_in 64 0 l in
    let lw : length (drop 32 w) ≡ 32 = length-drop 32 w ∙ ap (λ (j : ℕ). j - 32) (length_in 64 0 l) in
    sym (bytes_in_bytes 32 32 64 0 l h (omega arith)) ∙ bytes_room 32 32 w (omega (arith, length_in 64 0 l)) ∙ take_all 32 (drop 32 w) (omega arith)

-- Each byte's bound, strip by strip.

abbrev pub head_greatest : List ℕ
head_greatest = 3 ∷ (replicate 27 0 ++ replicate 4 255)

abbrev pub align_greatest : List ℕ
align_greatest = 1 ∷ 1 ∷ 4 ∷ 1 ∷ 255 ∷ 4 ∷ 1 ∷ 255 ∷ (replicate 12 0 ++ replicate 12 255)

abbrev pub front_greatest : List ℕ
front_greatest = replicate 4 255 ++ (10 ∷ 3 ∷ 1 ∷ 1 ∷ 9 ∷ replicate 23 0)

abbrev pub section_state : List ℕ
section_state = 1 ∷ 1 ∷ 3 ∷ 1 ∷ 4 ∷ 1 ∷ 4 ∷ 1 ∷ 2 ∷ 0 ∷ 0 ∷ 0 ∷ 0 ∷ 1 ∷ 1 ∷ 1 ∷ 1 ∷ (replicate 3 0 ++ replicate 12 255)

abbrev pub path_state : List ℕ
path_state = 1 ∷ 1 ∷ 3 ∷ 1 ∷ 4 ∷ 0 ∷ 0 ∷ 0 ∷ 0 ∷ 7 ∷ 3 ∷ 1 ∷ 7 ∷ 1 ∷ 1 ∷ 0 ∷ 0 ∷ (replicate 3 0 ++ replicate 12 255)

wider : (wide g w : List ℕ) → below wide g ≡ true → Tops g w → Tops wide w
wider wide g w t f = λ (i : ℕ). omega (arith, f i, below_all wide g t i)

-- of a layer's record at a place
module _ (o : ℕ) (st l : List ℕ) (h : o + 288 ≤ length l) (e : below (front_greatest ++ st) (bytes_in 64 o l) ≡ true) where
  pub front_tops_at : Tops front_greatest (bytes_in 32 0 (bytes_in 288 o l))
  front_tops_at =
      rw (first_strip o 288 l h (omega arith)) (below_all front_greatest (take 32 (bytes_in 64 o l)) (below_front front_greatest st (bytes_in 64 o l) e))

  front_wide : Tops front_top (bytes_in 32 0 (bytes_in 288 o l))
  unfolding below
  front_wide = wider front_top front_greatest (bytes_in 32 0 (bytes_in 288 o l)) refl front_tops_at

  pub state_tops_at : Tops st (bytes_in 32 32 (bytes_in 288 o l))
  state_tops_at = rw (second_strip o 288 l h (omega arith)) (below_all st (drop 32 (bytes_in 64 o l)) (below_rest front_greatest st (bytes_in 64 o l) e))

  pub held_stays_at : below state_top st ≡ true → held_bytes (held_in (bytes_in 288 o l)) ≡ bytes_in 288 o l
  held_stays_at t =
      let r : List ℕ = bytes_in 288 o l in
      held_stays r (length_in 288 o l) front_wide (wider state_top st (bytes_in 32 32 r) t state_tops_at)

-- words of bytes
pub flat_words : (n : ℕ) (x : List ℕ) → n * 4 ≤ length x → ((i : ℕ) → i < n * 4 → get_or x i 0 ≤ 255) → flat (words_of n x) ≡ take (n * 4) x
unfolding flat words_of
flat_words zero x h f = refl
flat_words (suc n) x h f =
    let k : suc n * 4 ≡ 4 + n * 4 = omega arith in
    let first : le4 (word_at x 0) ≡ take 4 x =
    word_stays (get_or x 0 0) (get_or x 1 0) (get_or x 2 0) (get_or x 3 0) (f 0 (omega arith)) (f 1 (omega arith)) (f 2 (omega arith)) (f 3 (omega arith))
    ∙ sym (take_from 4 0 x (omega arith)) in
    let g : (i : ℕ) → i < n * 4 → get_or (drop 4 x) i 0 ≤ 255 = λ i. λ m. rw (get_or-drop 4 x i 0) (f (4 + i) (omega arith)) in
    both first (flat_words n (drop 4 x) (omega (arith, length-drop 4 x)) g) ∙ sym (take-add 4 (n * 4) x) ∙ ap (λ (j : ℕ). take j x) (sym k)

-- each number of a list in its ranges is at most its greatest
inside_most : (los his ws : List ℕ) → inside los his ws ≡ true → (i : ℕ) → get_or ws i 0 ≤ get_or his i 0
unfolding inside
inside_most [] [] [] e i = zero-le
inside_most [] [] (w ∷ ws) e i = absurd (false≢true e)
inside_most [] (hi ∷ his) ws e i = absurd (false≢true e)
inside_most (lo ∷ los) [] ws e i = absurd (false≢true e)
inside_most (lo ∷ los) (hi ∷ his) [] e i = absurd (false≢true e)
inside_most (lo ∷ los) (hi ∷ his) (w ∷ ws) e zero =
    leb-true w hi (and_left (leb w hi) (inside los his ws) (and_right (leb lo w) (leb w hi && inside los his ws) e))
inside_most (lo ∷ los) (hi ∷ his) (w ∷ ws) e (suc i) =
    inside_most los his ws (and_right (leb w hi) (inside los his ws) (and_right (leb lo w) (leb w hi && inside los his ws) e)) i

copies_most : (n a i : ℕ) → get_or (replicate n a) i 0 ≤ a
copies_most zero a i = zero-le
copies_most (suc n) a zero = omega arith
copies_most (suc n) a (suc i) = copies_most n a i

-- Sound bytes, part by part.

pub cut_three : (l : List ℕ) → length l ≡ 688 → l ≡ take 112 l ++ (take 288 (drop 112 l) ++ drop 400 l)
cut_three l e =
    sym (take-append-drop 112 l)
    ∙ ap (λ (r : List ℕ). take 112 l ++ r) (sym (take-append-drop 288 (drop 112 l)) ∙ ap (λ (r : List ℕ). take 288 (drop 112 l) ++ r) (drop-drop 288 112 l))

-- the last two as they are read
pub section_bytes : (l : List ℕ) → length l ≡ 688 → bytes_in 288 112 l ≡ take 288 (drop 112 l)
section_bytes l e = bytes_room 288 112 l (omega arith)

pub path_bytes : (l : List ℕ) → length l ≡ 688 → bytes_in 288 400 l ≡ drop 400 l
path_bytes l e = bytes_room 288 400 l (omega arith) ∙ take_all 288 (drop 400 l) (omega (arith, length-drop 400 l))

-- the line's record in its three
pub cut_line : (l : List ℕ) → length l ≡ 688 → take 112 l ≡ take 32 l ++ (take 32 (drop 32 l) ++ take 48 (drop 64 l))
cut_line l e =
    take-add 32 80 l
    ∙ ap (λ (r : List ℕ). take 32 l ++ r)
    (take-add 32 48 (drop 32 l) ∙ ap (λ (r : List ℕ). take 32 (drop 32 l) ++ take 48 r) (drop-drop 32 32 l))

module _ (l : List ℕ) (e : sound l ≡ true) where
  long : length l ≡ 688
  long = sound_long l e

  pub head_tops : Tops head_greatest (bytes_in 32 0 l)
  head_tops =
      let w : List ℕ = bytes_in 64 0 l in
      rw (first_of l (omega (arith, long))) (below_all head_greatest (take 32 w) (below_front head_greatest align_greatest w (sounds l e).line.bytes))

  pub align_tops : Tops align_greatest (bytes_in 32 32 l)
  align_tops =
      let w : List ℕ = bytes_in 64 0 l in
      rw (second_of_lem l (omega (arith, long))) (below_all align_greatest (drop 32 w) (below_rest head_greatest align_greatest w (sounds l e).line.bytes))

  pub head_stays : take 32 l ≡ head_bytes (head_in (bytes_in 32 0 l))
  unfolding below
  head_stays =
      let w : List ℕ = bytes_in 32 0 l in
      sym (bytes_room 32 0 l (omega (arith, long))) ∙ sym (strips.head_stays w (length_in 32 0 l) (wider head_top head_greatest w refl head_tops))

  pub align_stays : take 32 (drop 32 l) ≡ align_bytes (align_in (bytes_in 32 32 l))
  unfolding below
  align_stays =
      let w : List ℕ = bytes_in 32 32 l in
      sym (bytes_room 32 32 l (omega (arith, long)))
      ∙ sym (strips.align_stays w (length_in 32 32 l) (wider align_top align_greatest w refl align_tops))

  pub counts_stay : take 48 (drop 64 l) ≡ flat (words_in 12 64 l)
  counts_stay =
      let x : List ℕ = drop 64 l in
      let lx : 48 ≤ length x = omega (arith, long, length-drop 64 l) in
      let f : (i : ℕ) → i < 48 → get_or x i 0 ≤ 255 =
      λ i. λ m. omega (arith, below_all (replicate 48 255) (bytes_in 48 64 l) (sounds l e).bytes i, ap (λ (b : List ℕ). get_or b i 0) (bytes_room 48 64 l (omega (arith, long))), get_or-take 48 x i 0 m, get_or-replicate {A = ℕ} 48 i 255 0 m) in
      sym (ap flat (words_room 12 64 l (omega (arith, long))) ∙ flat_words 12 x lx f)

  pub counts_long : length (words_in 12 64 l) ≡ 12
  counts_long = ap length (words_room 12 64 l (omega (arith, long))) ∙ length_words 12 (drop 64 l)

  pub counts_most : (i : ℕ) → get_or (words_in 12 64 l) i 0 ≤ 400000
  unfolding below
  counts_most i =
      let his : List ℕ = replicate 11 400000 ++ (0 ∷ []) in
      omega (arith, inside_most (replicate 12 0) his (words_in 12 64 l) (sounds l e).line.counts i, below_all (replicate 12 400000) his refl i, copies_most 12 400000 i)

  pub counts_spare : get_or (words_in 12 64 l) 11 0 ≡ 0
  counts_spare =
      omega (arith, inside_most (replicate 12 0) (replicate 11 400000 ++ (0 ∷ [])) (words_in 12 64 l) (sounds l e).line.counts 11)

  -- The section's record, and the path's.

  pub section_stays : held_bytes (held_in (bytes_in 288 112 l)) ≡ bytes_in 288 112 l
  unfolding below
  section_stays = held_stays_at 112 section_state l (omega (arith, long)) (sounds l e).section.bytes refl

  pub path_stays : held_bytes (held_in (bytes_in 288 400 l)) ≡ bytes_in 288 400 l
  unfolding below
  path_stays = held_stays_at 400 path_state l (omega (arith, long)) (sounds l e).path.bytes refl

  -- what a layer does not have is quiet
  pub section_tops : Tops section_state (bytes_in 32 32 (bytes_in 288 112 l))
  section_tops = state_tops_at 112 section_state l (omega (arith, long)) (sounds l e).section.bytes

  pub path_tops : Tops path_state (bytes_in 32 32 (bytes_in 288 400 l))
  path_tops = state_tops_at 400 path_state l (omega (arith, long)) (sounds l e).path.bytes

  pub section_stat : (held_in (bytes_in 288 112 l)).state.stat ≡ no_stat
  unfolding held_in
  section_stat =
      let w : List ℕ = bytes_in 32 32 (bytes_in 288 112 l) in
      let z : (i : ℕ) → get_or section_state i 0 ≡ 0 → get_or w i 0 ≡ 0 = λ i. λ q. omega (arith, section_tops i) in
      rw (z 9 refl, z 10 refl, z 11 refl, z 12 refl)

  path_none : (i : ℕ) → get_or path_state i 0 ≡ 0 → get_or (bytes_in 32 32 (bytes_in 288 400 l)) i 0 ≡ 0
  path_none i q = omega (arith, path_tops i)

  pub path_iae : (held_in (bytes_in 288 400 l)).state.iae ≡ quiet
  unfolding held_in
  path_iae = rw (path_none 5 refl, path_none 6 refl)

  pub path_biae : (held_in (bytes_in 288 400 l)).state.biae ≡ quiet
  unfolding held_in
  path_biae = rw (path_none 7 refl, path_none 8 refl)

  pub path_iaeseen : (held_in (bytes_in 288 400 l)).state.iaeseen ≡ false
  unfolding held_in
  path_iaeseen = rw (path_none 15 refl)

  pub path_biaeseen : (held_in (bytes_in 288 400 l)).state.biaeseen ≡ false
  unfolding held_in
  path_biaeseen = rw (path_none 16 refl)

-- What is read from bytes, and the records of what is read.

pub head_held : (l : List ℕ) → line_head (load_of l) ≡ head_in (bytes_in 32 0 l)
unfolding load_of
head_held l = refl

pub align_held : (l : List ℕ) → (load_of l).layers.align ≡ align_in (bytes_in 32 32 l)
unfolding load_of
align_held l = refl

-- a record with other values in place of those that one layer does not have
abbrev with_stat : Held → Stat → Held
with_stat h t =
    held_of (options_from h) (layer_from h) h.state.iae h.state.biae t h.state.blocks h.state.iaeseen h.state.biaeseen

abbrev with_iae : Held → Filter → Filter → Bool → Bool → Held
with_iae h i b u v = held_of (options_from h) (layer_from h) i b h.state.stat h.state.blocks u v

with_iae_same : (h : Held) (i b : Filter) (u v : Bool) → i ≡ h.state.iae → b ≡ h.state.biae → u ≡ h.state.iaeseen → v ≡ h.state.biaeseen
    → with_iae h i b u v ≡ h
with_iae_same h i b u v p q r s = rw (p, q, r, s)

module _ (l : List ℕ) (e : sound l ≡ true) where
  pub counts_held : counts_of (load_of l).second ≡ words_in 12 64 l
  unfolding load_of
  counts_held =
      let c : List ℕ = words_in 12 64 l in
      ap (λ (z : ℕ). from 0 11 c ++ (z ∷ [])) (sym (counts_spare l e)) ∙ from_all 12 c (counts_long l e)

  pub section_held_lem : section_held (load_of l) ≡ held_in (bytes_in 288 112 l)
  unfolding load_of
  section_held_lem = ap (with_stat (held_in (bytes_in 288 112 l))) (sym (section_stat l e))

  pub path_held_lem : path_held (load_of l) ≡ held_in (bytes_in 288 400 l)
  unfolding load_of
  path_held_lem =
      with_iae_same (held_in (bytes_in 288 400 l)) quiet quiet false false
      (sym (path_iae l e))
      (sym (path_biae l e))
      (sym (path_iaeseen l e))
      (sym (path_biaeseen l e))
