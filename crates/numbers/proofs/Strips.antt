-- The round trips of the strips: numbers that fit are read back from their bytes, and bytes that hold to the greatest of each stay.
-- Assumes nothing.
use mathlib.Core.Path.{◌≡◌, refl, sym, ap, ◌∙◌}
use mathlib.Core.Bool.{Bool, true, false}
use mathlib.Core.List.{List, [], ◌∷◌, ◌++◌}
use Prim.Native.Nat.{ℕ, zero, suc, ◌+◌, ◌*◌, ◌/◌, ◌%◌, ◌≤◌, ◌<◌}
use native.Mathlib.Nat.{mod-eq_of_lt}
use native.Mathlib.Omega.{arith}
use lib.ListN.{length, get_or, take, drop, replicate}
use lib.Seq.{drop-cons, take_all}
use Rattle.answer.specs.Bits.{flag}
use Rattle.codec.specs.Over.{bytes_in}
use Rattle.codec.specs.Pieces.{Piece, Sized, offset, bytes_at, width_at, cut}
use Rattle.codec.proofs.Overs.{length_in}
use Rattle.codec.proofs.Pieces.{bytes_piece, cut_sized, joined_cut}
use Rattle.words.specs.Words.{le4, word_of, word_at}
use Rattle.words.proofs.Words.{word_back}
use Rattle.alignment.specs.declared.Alignment.{Alignment}
use Rattle.numbers.specs.declared.Head.{Head}
use Rattle.numbers.specs.declared.Front.{Front}
use Rattle.numbers.specs.declared.State.{State}
use Rattle.numbers.specs.Numbers.{on, head_bytes, head_in, align_bytes, align_in, front_bytes, front_in, state_bytes, state_in}
use Rattle.numbers.specs.Held.{Held, held_in, held_pieces, held_bytes}

pub flag_back : (b : Bool) → on (flag b) ≡ b
flag_back true = refl
flag_back false = refl

-- a number below 256 is its own low byte
pub byte : (x : ℕ) → x < 256 → x % 256 ≡ x
byte x h = mod-eq_of_lt h

-- Numbers that fit: counts below 2 ^ 32, and what a byte holds below 256.

pub record AlignFits (a : Alignment) : Type 0 where
  pub misses : a.framing.misses < 256
  pub mismatches : a.multi.misses < 256
  pub total : a.lof.total < 4294967296
  pub good : a.lof.good < 4294967296
  pub lom : a.lom < 4294967296

pub record FrontFits (f : Front) : Type 0 where
  pub thr : f.thr < 4294967296
  pub degm : f.degm < 256
  pub deg : f.deg.run < 256

pub record StateFits (s : State) : Type 0 where
  pub equal : s.equal < 256
  pub bdi : s.bdi.run < 256
  pub iae : s.iae.run < 256
  pub biae : s.biae.run < 256
  pub stat : s.stat.run < 256
  pub near : s.blocks.near.0 < 4294967296
  pub far : s.blocks.far.0 < 4294967296
  pub sum : s.blocks.sum.0 < 4294967296

-- They are read back.

pub head_back : (h : Head) → h.seconds < 4294967296 → head_in (head_bytes h) ≡ h
head_back h s = rw (word_back h.seconds s)

pub align_back : (a : Alignment) → AlignFits a → align_in (align_bytes a) ≡ a
align_back a f =
    simp (
      flag_back,
      byte a.framing.misses f.misses,
      byte a.multi.misses f.mismatches,
      word_back a.lof.total f.total,
      word_back a.lof.good f.good,
      word_back a.lom f.lom,
    )

pub front_back : (x : Front) → FrontFits x → front_in (front_bytes x) ≡ x
front_back x f = simp (flag_back, byte x.degm f.degm, byte x.deg.run f.deg, word_back x.thr f.thr)

pub state_back : (s : State) → StateFits s → state_in (state_bytes s) ≡ s
state_back s f =
    simp (
      flag_back,
      byte s.equal f.equal,
      byte s.bdi.run f.bdi,
      byte s.iae.run f.iae,
      byte s.biae.run f.biae,
      byte s.stat.run f.stat,
      word_back s.blocks.near.0 f.near,
      word_back s.blocks.far.0 f.far,
      word_back s.blocks.sum.0 f.sum,
    )

-- A list, element by element.

abbrev pub from : ℕ → ℕ → List ℕ → List ℕ
from i zero l = []
from i (suc n) l = get_or l i 0 ∷ from (suc i) n l

pub take_from : (n i : ℕ) (l : List ℕ) → i + n ≤ length l → take n (drop i l) ≡ from i n l
take_from zero i l h = refl
take_from (suc n) i l h =
    ap (take (suc n)) (drop-cons l i 0 (omega arith)) ∙ ap (λ (r : List ℕ). get_or l i 0 ∷ r) (take_from n (suc i) l (omega arith))

pub from_all : (n : ℕ) (l : List ℕ) → length l ≡ n → from 0 n l ≡ l
from_all n l e = sym (take_from n 0 l (omega arith)) ∙ take_all n l (omega arith)

-- each element is at most its greatest
abbrev pub Tops : List ℕ → List ℕ → Type 0
Tops g w = (i : ℕ) → get_or w i 0 ≤ get_or g i 0

pub flag_stays : (x : ℕ) → x ≤ 1 → flag (on x) ≡ x
flag_stays zero h = refl
flag_stays (suc zero) h = refl
flag_stays (suc (suc x)) h = absurd (omega arith)

low_stays : (x : ℕ) → x ≤ 255 → x % 256 ≡ x
low_stays x h = byte x (omega arith)

lowest : (a r : ℕ) → a ≤ 255 → (a + 256 * r) % 256 ≡ a
lowest a r h = omega arith

pub word_stays : (a b c d : ℕ) → a ≤ 255 → b ≤ 255 → c ≤ 255 → d ≤ 255 → le4 (word_of a b c d) ≡ a ∷ b ∷ c ∷ d ∷ []
word_stays a b c d ha hb hc hd =
    let x : ℕ = word_of a b c d in
    let q0 : x ≡ a + 256 * (b + 256 * (c + 256 * d)) = omega arith in
    let q1 : x / 256 ≡ b + 256 * (c + 256 * d) = omega arith in
    let q2 : x / 65536 ≡ c + 256 * d = omega arith in
    let q3 : x / 16777216 ≡ d + 256 * 0 = omega arith in
    let p0 : x % 256 ≡ a = ap (λ (n : ℕ). n % 256) q0 ∙ lowest a (b + 256 * (c + 256 * d)) ha in
    let p1 : x / 256 % 256 ≡ b = ap (λ (n : ℕ). n % 256) q1 ∙ lowest b (c + 256 * d) hb in
    let p2 : x / 65536 % 256 ≡ c = ap (λ (n : ℕ). n % 256) q2 ∙ lowest c d hc in
    let p3 : x / 16777216 % 256 ≡ d = ap (λ (n : ℕ). n % 256) q3 ∙ lowest d 0 hd in
    ap4 p0 p1 p2 p3
  where
    ap4 : {a b c d a' b' c' d' : ℕ} → a ≡ a' → b ≡ b' → c ≡ c' → d ≡ d' → a ∷ b ∷ c ∷ d ∷ [] ≡ a' ∷ b' ∷ c' ∷ d' ∷ []
    ap4 p q r s = cc

-- The strips' greatest bytes: a flag is 1 at most, a spare byte 0.

abbrev pub head_top : List ℕ
head_top = 255 ∷ (replicate 27 0 ++ replicate 4 255)

abbrev pub align_top : List ℕ
align_top = 1 ∷ 1 ∷ 255 ∷ 1 ∷ 255 ∷ 255 ∷ 1 ∷ 255 ∷ (replicate 12 0 ++ replicate 12 255)

abbrev pub front_top : List ℕ
front_top = replicate 6 255 ++ (1 ∷ 1 ∷ 255 ∷ replicate 23 0)

abbrev pub state_top : List ℕ
state_top =
    1 ∷ 1 ∷ 255 ∷ 1 ∷ 255 ∷ 1 ∷ 255 ∷ 1 ∷ 255 ∷ 255 ∷ 255 ∷ 1 ∷ 255 ∷ 1 ∷ 1 ∷ 1 ∷ 1 ∷ (replicate 3 0 ++ replicate 12 255)

-- Bytes that hold to them stay.

cons2 : {x y : ℕ} {xs ys : List ℕ} → x ≡ y → xs ≡ ys → x ∷ xs ≡ y ∷ ys
cons2 p q = cc

pub both : {a b c d : List ℕ} → a ≡ b → c ≡ d → a ++ c ≡ b ++ d
both p q = cc

zeros : (g w : List ℕ) (i n : ℕ) → Tops g w → from i n g ≡ replicate n 0 → replicate n 0 ≡ from i n w
zeros g w i zero t e = refl
zeros g w i (suc n) t e =
    let z : get_or g i 0 ≡ 0 = cc in
    let r : from (suc i) n g ≡ replicate n 0 = cc in
    let h : 0 ≡ get_or w i 0 = omega (arith, t i) in
    cons2 h (zeros g w (suc i) n t r)

word_from : (w : List ℕ) (i : ℕ) → get_or w i 0 ≤ 255 → get_or w (i + 1) 0 ≤ 255 → get_or w (i + 2) 0 ≤ 255 → get_or w (i + 3) 0 ≤ 255
    → le4 (word_at w i) ≡ get_or w i 0 ∷ get_or w (i + 1) 0 ∷ get_or w (i + 2) 0 ∷ get_or w (i + 3) 0 ∷ []
word_from w i ha hb hc hd = word_stays (get_or w i 0) (get_or w (i + 1) 0) (get_or w (i + 2) 0) (get_or w (i + 3) 0) ha hb hc hd

pub head_stays : (w : List ℕ) → length w ≡ 32 → Tops head_top w → head_bytes (head_in w) ≡ w
head_stays w e t =
    let z : replicate 27 0 ≡ from 1 27 w = zeros head_top w 1 27 t refl in
    let m : le4 (word_at w 28) ≡ from 28 4 w = word_from w 28 (t 28) (t 29) (t 30) (t 31) in
    cons2 {x = get_or w 0 0} refl (both z m) ∙ from_all 32 w e

pub align_stays : (w : List ℕ) → length w ≡ 32 → Tops align_top w → align_bytes (align_in w) ≡ w
align_stays w e t =
    let z : replicate 12 0 ≡ from 8 12 w = zeros align_top w 8 12 t refl in
    let total : le4 (word_at w 20) ≡ from 20 4 w = word_from w 20 (t 20) (t 21) (t 22) (t 23) in
    let good : le4 (word_at w 24) ≡ from 24 4 w = word_from w 24 (t 24) (t 25) (t 26) (t 27) in
    let lom : le4 (word_at w 28) ≡ from 28 4 w = word_from w 28 (t 28) (t 29) (t 30) (t 31) in
    cons2 (flag_stays (get_or w 0 0) (t 0))
    (cons2 (flag_stays (get_or w 1 0) (t 1))
    (cons2 (low_stays (get_or w 2 0) (t 2))
    (cons2 (flag_stays (get_or w 3 0) (t 3))
    (cons2 {x = get_or w 4 0} refl
    (cons2 (low_stays (get_or w 5 0) (t 5))
    (cons2 (flag_stays (get_or w 6 0) (t 6))
    (cons2 {x = get_or w 7 0} refl (both z (both total (both good lom)))))))))) ∙ from_all 32 w e

pub front_stays : (w : List ℕ) → length w ≡ 32 → Tops front_top w → front_bytes (front_in w) ≡ w
front_stays w e t =
    let thr : le4 (word_at w 0) ≡ from 0 4 w = word_from w 0 (t 0) (t 1) (t 2) (t 3) in
    let z : replicate 23 0 ≡ from 9 23 w = zeros front_top w 9 23 t refl in
    both thr
    (cons2 (low_stays (get_or w 4 0) (t 4))
    (cons2 {x = get_or w 5 0} refl
    (cons2 (flag_stays (get_or w 6 0) (t 6)) (cons2 (flag_stays (get_or w 7 0) (t 7)) (cons2 (low_stays (get_or w 8 0) (t 8)) z))))) ∙ from_all 32 w e

pub state_stays : (w : List ℕ) → length w ≡ 32 → Tops state_top w → state_bytes (state_in w) ≡ w
state_stays w e t =
    let z : replicate 3 0 ≡ from 17 3 w = zeros state_top w 17 3 t refl in
    let sum : le4 (word_at w 20) ≡ from 20 4 w = word_from w 20 (t 20) (t 21) (t 22) (t 23) in
    let near : le4 (word_at w 24) ≡ from 24 4 w = word_from w 24 (t 24) (t 25) (t 26) (t 27) in
    let far : le4 (word_at w 28) ≡ from 28 4 w = word_from w 28 (t 28) (t 29) (t 30) (t 31) in
    cons2 (flag_stays (get_or w 0 0) (t 0))
    (cons2 (flag_stays (get_or w 1 0) (t 1))
    (cons2 (low_stays (get_or w 2 0) (t 2))
    (cons2 (flag_stays (get_or w 3 0) (t 3))
    (cons2 (low_stays (get_or w 4 0) (t 4))
    (cons2 (flag_stays (get_or w 5 0) (t 5))
    (cons2 (low_stays (get_or w 6 0) (t 6))
    (cons2 (flag_stays (get_or w 7 0) (t 7))
    (cons2 (low_stays (get_or w 8 0) (t 8))
    (cons2 {x = get_or w 9 0} refl
    (cons2 (low_stays (get_or w 10 0) (t 10))
    (cons2 (flag_stays (get_or w 11 0) (t 11))
    (cons2 {x = get_or w 12 0} refl
    (cons2 (flag_stays (get_or w 13 0) (t 13))
    (cons2 (flag_stays (get_or w 14 0) (t 14))
    (cons2 (flag_stays (get_or w 15 0) (t 15))
    (cons2 (flag_stays (get_or w 16 0) (t 16)) (both z (both sum (both near far))))))))))))))))))) ∙ from_all 32 w e

-- A whole record, its six parts at their places.

pub held_back : (h : Held) → FrontFits h.front → StateFits h.state → Sized (held_pieces h) → held_in (held_bytes h) ≡ h
unfolding held_in held_bytes
held_back h f s z =
    let ps : List Piece = held_pieces h in
    rw (
      bytes_piece 0 ps z,
      bytes_piece 1 ps z,
      bytes_piece 2 ps z,
      bytes_piece 3 ps z,
      bytes_piece 4 ps z,
      bytes_piece 5 ps z,
      front_back h.front f,
      state_back h.state s,
    )

-- where each part of a record's bytes stands
abbrev parts : List ℕ
parts = 32 ∷ 32 ∷ 64 ∷ 64 ∷ 64 ∷ 32 ∷ []

part_at : (i : ℕ) (l : List ℕ) → length l ≡ 288 → bytes_in (width_at i (cut parts l)) (offset i (cut parts l)) l ≡ bytes_at i (cut parts l)
part_at i l e =
    let ps : List Piece = cut parts l in
    ap (bytes_in (width_at i ps) (offset i ps)) (sym (joined_cut parts l (omega arith))) ∙ bytes_piece i ps (cut_sized parts l (omega arith))

pub held_stays : (l : List ℕ) → length l ≡ 288 → Tops front_top (bytes_in 32 0 l) → Tops state_top (bytes_in 32 32 l) → held_bytes (held_in l) ≡ l
unfolding held_in held_bytes
held_stays l e f s =
    both (front_stays (bytes_in 32 0 l) (length_in 32 0 l) f ∙ part_at 0 l e)
    (both (state_stays (bytes_in 32 32 l) (length_in 32 32 l) s ∙ part_at 1 l e)
    (both (part_at 2 l e) (both (part_at 3 l e) (both (part_at 4 l e) (both (part_at 5 l e) refl))))) ∙ joined_cut parts l (omega arith)
