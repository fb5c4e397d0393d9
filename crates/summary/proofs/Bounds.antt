-- What a summary that is one has. Assumes nothing.
use mathlib.Core.Path.{◌≡◌, refl}
use mathlib.Core.Bool.{Bool, true, false, ◌&&◌, beq}
use mathlib.Core.List.{List}
use Prim.Native.Nat.{ℕ, zero, suc, ◌+◌, ◌-◌, ◌*◌, ◌≤◌, ◌<◌}
use native.Mathlib.Omega.{arith}
use lib.Dec.{eqb, leb}
use lib.ListN.{get_or}
use Rattle.answer.proofs.Cond.{and_left, and_right}
use Rattle.summary.specs.Summary.{five_good, heads_good, valid_of, FiveLow, Low}
use Rattle.summary.specs.declared.Five.{Five}
use Rattle.summary.specs.declared.Summary.{Summary}
use borrow.Author.Tests.{leb-true, leb-false, le-leb, lt-leb}

-- the last second, without a sum
pub last_is : (first length : ℕ) → length ≤ 86400 → leb first (4294967296 - length) ≡ leb (first + length) 4294967296
last_is first length h = by (leb (first + length) 4294967296) refl
  where
    by : (b : Bool) → leb (first + length) 4294967296 ≡ b → leb first (4294967296 - length) ≡ b
    by true e = let k = leb-true (first + length) 4294967296 e in le-leb first (4294967296 - length) (omega arith)
    by false e = let k = leb-false (first + length) 4294967296 e in lt-leb first (4294967296 - length) (omega arith)

-- The parts of a summary that is one: within their bounds, as numbers.

pub record FiveIn (f : Five) (most sums length : ℕ) : Type 0 where
  pub near : f.near ≤ most
  pub far : f.far ≤ most
  pub neards : f.neards ≤ length
  pub fards : f.fards ≤ length
  pub sum : f.sum ≤ sums

abbrev pub HeadsIn : List ℕ → ℕ → Type 0
HeadsIn h most = (i : ℕ) → i < 10 → get_or h i 0 ≤ most

pub record Parts (s : Summary) : Type 0 where
  pub length : s.length ≤ 86400
  pub begins : beq (eqb s.first 0) (eqb s.length 0) ≡ true
  pub last : s.first + s.length ≤ 4294967296
  pub frames : s.frames ≤ 400000 * s.length
  pub heads : HeadsIn s.heads (400000 * s.length)
  pub section : FiveIn s.section (400000 * s.length) (3200000 * s.length) s.length
  pub path : FiveIn s.path (400000 * s.length) (3200000 * s.length) s.length

module _ (f : Five) (most sums length : ℕ) where
  abbrev fp : Bool
  fp = leb f.near most

  abbrev fq : Bool
  fq = leb f.far most

  abbrev fr : Bool
  fr = leb f.neards length

  abbrev ft : Bool
  ft = leb f.fards length

  abbrev fu : Bool
  fu = leb f.sum sums

  five_in_lem : five_good f most sums length ≡ true → FiveIn f most sums length
  unfolding five_good
  five_in_lem e =
      let d = and_left (fp && fq && fr && ft) fu e in
      let a = and_left (fp && fq && fr) ft d in
      let b = and_left (fp && fq) fr a in
      record {
        near = leb-true _ _ (and_left fp fq b);
        far = leb-true _ _ (and_right fp fq b);
        neards = leb-true _ _ (and_right (fp && fq) fr a);
        fards = leb-true _ _ (and_right (fp && fq && fr) ft d);
        sum = leb-true _ _ (and_right (fp && fq && fr && ft) fu e);
      }

  pub five_good_lem : FiveIn f most sums length → five_good f most sums length ≡ true
  unfolding five_good
  five_good_lem p = rw (le-leb _ _ p.near, le-leb _ _ p.far, le-leb _ _ p.neards, le-leb _ _ p.fards, le-leb _ _ p.sum)

module _ (h : List ℕ) (most : ℕ) where
  abbrev t : ℕ → Bool
  t j = leb (get_or h j 0) most

  at : (i : ℕ) → i < 10 → t 0 ≡ true → t 1 ≡ true → t 2 ≡ true → t 3 ≡ true → t 4 ≡ true → t 5 ≡ true → t 6 ≡ true → t 7 ≡ true → t 8 ≡ true → t 9 ≡ true → get_or h i 0 ≤ most
  at zero k a b c d e f g p q r = leb-true _ _ a
  at (suc zero) k a b c d e f g p q r = leb-true _ _ b
  at (suc (suc zero)) k a b c d e f g p q r = leb-true _ _ c
  at (suc (suc (suc zero))) k a b c d e f g p q r = leb-true _ _ d
  at (suc (suc (suc (suc zero)))) k a b c d e f g p q r = leb-true _ _ e
  at (suc (suc (suc (suc (suc zero))))) k a b c d e f g p q r = leb-true _ _ f
  at (suc (suc (suc (suc (suc (suc zero)))))) k a b c d e f g p q r = leb-true _ _ g
  at (suc (suc (suc (suc (suc (suc (suc zero))))))) k a b c d e f g p q r = leb-true _ _ p
  at (suc (suc (suc (suc (suc (suc (suc (suc zero)))))))) k a b c d e f g p q r = leb-true _ _ q
  at (suc (suc (suc (suc (suc (suc (suc (suc (suc zero))))))))) k a b c d e f g p q r = leb-true _ _ r
  at (suc (suc (suc (suc (suc (suc (suc (suc (suc (suc n)))))))))) k a b c d e f g p q r = absurd (omega arith)

  heads_in_lem : heads_good h most ≡ true → HeadsIn h most
  unfolding heads_good
  heads_in_lem e i k =
      let a9 = and_left (t 0 && t 1 && t 2 && t 3 && t 4 && t 5 && t 6 && t 7 && t 8) (t 9) e in
      let a8 = and_left (t 0 && t 1 && t 2 && t 3 && t 4 && t 5 && t 6 && t 7) (t 8) a9 in
      let a7 = and_left (t 0 && t 1 && t 2 && t 3 && t 4 && t 5 && t 6) (t 7) a8 in
      let a6 = and_left (t 0 && t 1 && t 2 && t 3 && t 4 && t 5) (t 6) a7 in
      let a5 = and_left (t 0 && t 1 && t 2 && t 3 && t 4) (t 5) a6 in
      let a4 = and_left (t 0 && t 1 && t 2 && t 3) (t 4) a5 in
      let a3 = and_left (t 0 && t 1 && t 2) (t 3) a4 in
      let a2 = and_left (t 0 && t 1) (t 2) a3 in
      at i k (and_left (t 0) (t 1) a2) (and_right (t 0) (t 1) a2) (and_right (t 0 && t 1) (t 2) a3) (and_right (t 0 && t 1 && t 2) (t 3) a4) (and_right (t 0 && t 1 && t 2 && t 3) (t 4) a5)
      (and_right (t 0 && t 1 && t 2 && t 3 && t 4) (t 5) a6) (and_right (t 0 && t 1 && t 2 && t 3 && t 4 && t 5) (t 6) a7) (and_right (t 0 && t 1 && t 2 && t 3 && t 4 && t 5 && t 6) (t 7) a8)
      (and_right (t 0 && t 1 && t 2 && t 3 && t 4 && t 5 && t 6 && t 7) (t 8) a9) (and_right (t 0 && t 1 && t 2 && t 3 && t 4 && t 5 && t 6 && t 7 && t 8) (t 9) e)

  pub heads_good_lem : HeadsIn h most → heads_good h most ≡ true
  unfolding heads_good
  heads_good_lem p =
      let g : (i : ℕ) → i < 10 → t i ≡ true = λ i k. le-leb _ _ (p i k) in
      rw (
        g 0 (omega arith),
        g 1 (omega arith),
        g 2 (omega arith),
        g 3 (omega arith),
        g 4 (omega arith),
        g 5 (omega arith),
        g 6 (omega arith),
        g 7 (omega arith),
        g 8 (omega arith),
        g 9 (omega arith),
      )

-- a length is low too
pub low_of : {x : ℕ} → x ≤ 86400 → x ≤ 276480000000
low_of h = omega arith

five_low : (f : Five) (length : ℕ) → length ≤ 86400 → FiveIn f (400000 * length) (3200000 * length) length → FiveLow f
five_low f length n p =
    let a : f.near ≤ 400000 * length = p.near in
    let b : f.far ≤ 400000 * length = p.far in
    let c : f.neards ≤ length = p.neards in
    let d : f.fards ≤ length = p.fards in
    let e : f.sum ≤ 3200000 * length = p.sum in
    record { near = omega arith; far = omega arith; neards = omega arith; fards = omega arith; sum = omega arith }

module _ (s : Summary) where
  abbrev most : ℕ
  most = 400000 * s.length

  abbrev sums : ℕ
  sums = 3200000 * s.length

  abbrev l : Bool
  l = leb s.length 86400

  abbrev m : Bool
  m = beq (eqb s.first 0) (eqb s.length 0)

  abbrev n : Bool
  n = leb (s.first + s.length) 4294967296

  abbrev o : Bool
  o = leb s.frames most

  abbrev p : Bool
  p = heads_good s.heads most

  abbrev q : Bool
  q = five_good s.section most sums s.length

  abbrev r : Bool
  r = five_good s.path most sums s.length

  pub valid_parts : valid_of s ≡ true → Parts s
  unfolding valid_of
  valid_parts e =
      let a = and_left (l && m && n && o && p && q) r e in
      let b = and_left (l && m && n && o && p) q a in
      let c = and_left (l && m && n && o) p b in
      let d = and_left (l && m && n) o c in
      let f = and_left (l && m) n d in
      record {
        length = leb-true _ _ (and_left l m f);
        begins = and_right l m f;
        last = leb-true _ _ (and_right (l && m) n d);
        frames = leb-true _ _ (and_right (l && m && n) o c);
        heads = heads_in_lem s.heads most (and_right (l && m && n && o) p b);
        section = five_in_lem s.section most sums s.length (and_right (l && m && n && o && p) q a);
        path = five_in_lem s.path most sums s.length (and_right (l && m && n && o && p && q) r e);
      }

  pub parts_valid : Parts s → valid_of s ≡ true
  unfolding valid_of
  parts_valid x =
      rw (
        le-leb _ _ x.length,
        x.begins,
        le-leb _ _ x.last,
        le-leb _ _ x.frames,
        heads_good_lem s.heads most x.heads,
        five_good_lem s.section most sums s.length x.section,
        five_good_lem s.path most sums s.length x.path,
      )

  pub valid_low : valid_of s ≡ true → Low s
  valid_low e =
      let x : Parts s = valid_parts e in
      let short : s.length ≤ 86400 = x.length in
      let few : s.frames ≤ most = x.frames in
      record {
        length = short;
        last = x.last;
        frames = omega arith;
        heads = λ i k. let y : get_or s.heads i 0 ≤ most = x.heads i k in omega arith;
        section = five_low s.section s.length short x.section;
        path = five_low s.path s.length short x.path;
      }
