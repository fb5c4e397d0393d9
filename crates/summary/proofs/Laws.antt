-- Joining has a unit, is closed and associative. Assumes nothing.
use Prim.Native.Nat.{ℕ, zero, suc, ◌+◌, ◌*◌, ◌≤◌, ◌<◌}
use mathlib.Core.Path.{◌≡◌, refl, sym, ap, ◌∙◌}
use mathlib.Core.Bool.{Bool, true, false, cond, ◌&&◌, ◌||◌, beq}
use mathlib.Core.List.{List, [], ◌∷◌}
use native.Mathlib.Omega.{arith}
use lib.Dec.{eqb, leb}
use lib.ListN.{length, get_or}
use borrow.Author.Tests.{leb-true, le-leb, lt-leb, leb-false, eqb-true, ne_eqb}
use Rattle.summary.specs.Summary.{five_good, heads_good, valid_of, five_sum, heads_sum, both_at, added_of, follows_on, place_refusal, join_refusal, empty_summary}
use Rattle.summary.specs.Laws.{Sound, accepted, joined, Closed, EveryUnit, EveryAssociative}
use Rattle.answer.proofs.Cond.{and_left, and_right}
use Rattle.summary.proofs.Joins.{joins}
use Rattle.summary.proofs.Bounds.{FiveIn, HeadsIn, Parts, valid_parts, parts_valid}
use Rattle.summary.specs.declared.Five.{Five}
use Rattle.summary.specs.declared.Summary.{Summary}

-- sums, associative
plus : (x y z : ℕ) → x + y + z ≡ x + (y + z)
plus x y z = omega arith

five_assoc : (f g h : Five) → five_sum (five_sum f g) h ≡ five_sum f (five_sum g h)
five_assoc f g h = rw (plus f.near g.near h.near, plus f.far g.far h.far, plus f.neards g.neards h.neards, plus f.fards g.fards h.fards, plus f.sum g.sum h.sum)

heads_assoc : (h k l : List ℕ) → heads_sum (heads_sum h k) l ≡ heads_sum h (heads_sum k l)
heads_assoc h k l =
    let e : (i : ℕ) → both_at h k i + get_or l i 0 ≡ get_or h i 0 + both_at k l i = λ i. plus (get_or h i 0) (get_or k i 0) (get_or l i 0) in
    rw (e 0, e 1, e 2, e 3, e 4, e 5, e 6, e 7, e 8, e 9)

none : (x : ℕ) → 0 + x ≡ x
none x = omega arith

right : (x : ℕ) → x + 0 ≡ x
right x = omega arith

-- the number of the first second, by the two lengths
first_assoc : (la lb fa fb fc : ℕ) → cond (eqb (la + lb) 0) fc (cond (eqb la 0) fb fa) ≡ cond (eqb la 0) (cond (eqb lb 0) fc fb) fa
first_assoc zero lb fa fb fc = rw (none lb)
first_assoc (suc la) lb fa fb fc = rw (ne_eqb (suc la + lb) 0 (λ e. omega (arith, e)), ne_eqb (suc la) 0 (λ e. omega (arith, e)))

same_sum : (a b c : Summary) → added_of (added_of a b) c ≡ added_of a (added_of b c)
unfolding added_of
same_sum a b c =
    rw (
      first_assoc a.length b.length a.first b.first c.first,
      plus a.length b.length c.length,
      plus a.frames b.frames c.frames,
      heads_assoc a.heads b.heads c.heads,
      five_assoc a.section b.section c.section,
      five_assoc a.path b.path c.path,
    )

-- Following on, as numbers: the lengths and first seconds of three.

abbrev follows : ℕ → ℕ → ℕ → ℕ → Bool
follows la fa lb fb = eqb la 0 || eqb lb 0 || eqb fb (fa + la)

or-true : (b : Bool) → (b || true) ≡ true
or-true true = refl
or-true false = refl

and_true : (b : Bool) → (b && true) ≡ b
and_true true = refl
and_true false = refl

and-false : (b : Bool) → (b && false) ≡ false
and-false true = refl
and-false false = refl

-- no length is 0
all_three : (la lb lc fa fb fc : ℕ) (t : Bool) → eqb fb (fa + la) ≡ t → (t && eqb fc (fa + (la + lb))) ≡ (eqb fc (fb + lb) && t)
all_three la lb lc fa fb fc true e =
    let p : fb ≡ fa + la = eqb-true _ _ e in
    let q : fa + (la + lb) ≡ fb + lb = omega (arith, p) in
    rw q (sym (and_true (eqb fc (fb + lb))))
all_three la lb lc fa fb fc false e = sym (and-false (eqb fc (fb + lb)))

full : (x y : ℕ) → eqb (suc x + y) 0 ≡ false
full x y = ne_eqb (suc x + y) 0 (λ e. omega (arith, e))

some : (x : ℕ) → eqb (suc x) 0 ≡ false
some x = ne_eqb (suc x) 0 (λ e. omega (arith, e))

follow_assoc : (la lb lc fa fb fc : ℕ)
    → (follows la fa lb fb && follows (la + lb) (cond (eqb la 0) fb fa) lc fc) ≡ (follows lb fb lc fc && follows la fa (lb + lc) (cond (eqb lb 0) fc fb))
follow_assoc zero lb lc fa fb fc = rw (none lb) (sym (and_true (follows lb fb lc fc)))
follow_assoc (suc la) zero lc fa fb fc = rw (right (suc la), none lc, some la)
follow_assoc (suc la) (suc lb) zero fa fb fc = rw (full la (suc lb), some la, right (suc lb), some lb) (and_true (eqb fb (fa + suc la)))
follow_assoc (suc la) (suc lb) (suc lc) fa fb fc = rw (full la (suc lb), some la, some lb, some lc, full lb (suc lc)) (all_three (suc la) (suc lb) (suc lc) fa fb fc (eqb fb (fa + suc la)) refl)

-- The length, and acceptance as tests.

sum_assoc : (la lb lc : ℕ) → (leb (la + lb) 86400 && leb (la + lb + lc) 86400) ≡ (leb (lb + lc) 86400 && leb (la + (lb + lc)) 86400)
sum_assoc la lb lc = by (leb (la + (lb + lc)) 86400) refl
  where
    by : (t : Bool) → leb (la + (lb + lc)) 86400 ≡ t → (leb (la + lb) 86400 && leb (la + lb + lc) 86400) ≡ (leb (lb + lc) 86400 && leb (la + (lb + lc)) 86400)
    by true e =
        let h : la + (lb + lc) ≤ 86400 = leb-true _ _ e in
        rw (le-leb (la + lb) 86400 (omega arith), le-leb (la + lb + lc) 86400 (omega arith), le-leb (lb + lc) 86400 (omega arith), e)
    by false e =
        let h : 86400 < la + (lb + lc) = leb-false _ _ e in
        rw (lt-leb (la + lb + lc) 86400 (omega arith), e, and-false (leb (la + lb) 86400), and-false (leb (lb + lc) 86400))

-- a number that is not 0 where a test fails
first_zero : (x y : Bool) → eqb (cond x (cond y 0 21) 20) 0 ≡ (x && y)
first_zero true true = refl
first_zero true false = refl
first_zero false y = refl

accepts : (a b : Summary) → valid_of a ≡ true → valid_of b ≡ true → accepted a b ≡ (leb (a.length + b.length) 86400 && follows_on a b)
unfolding join_refusal
accepts a b x y = rw (x, y) (first_zero (leb (a.length + b.length) 86400) (follows_on a b))

following : (a b : Summary) → follows_on a b ≡ true → follows a.length a.first b.length b.first ≡ true
unfolding follows_on
following a b e = e

-- Closed.

five_sums : (f g : Five) (la lb : ℕ) → FiveIn f (400000 * la) (3200000 * la) la → FiveIn g (400000 * lb) (3200000 * lb) lb
    → FiveIn (five_sum f g) (400000 * (la + lb)) (3200000 * (la + lb)) (la + lb)
five_sums f g la lb x y =
    let a : f.near ≤ 400000 * la = x.near in
    let b : g.near ≤ 400000 * lb = y.near in
    let c : f.far ≤ 400000 * la = x.far in
    let d : g.far ≤ 400000 * lb = y.far in
    let e : f.neards ≤ la = x.neards in
    let h : g.neards ≤ lb = y.neards in
    let i : f.fards ≤ la = x.fards in
    let j : g.fards ≤ lb = y.fards in
    let k : f.sum ≤ 3200000 * la = x.sum in
    let l : g.sum ≤ 3200000 * lb = y.sum in
    record { near = omega arith; far = omega arith; neards = omega arith; fards = omega arith; sum = omega arith }

-- a head of the sums
sum_at : (h k : List ℕ) (i : ℕ) → i < 10 → get_or (heads_sum h k) i 0 ≡ both_at h k i
sum_at h k zero l = refl
sum_at h k (suc zero) l = refl
sum_at h k (suc (suc zero)) l = refl
sum_at h k (suc (suc (suc zero))) l = refl
sum_at h k (suc (suc (suc (suc zero)))) l = refl
sum_at h k (suc (suc (suc (suc (suc zero))))) l = refl
sum_at h k (suc (suc (suc (suc (suc (suc zero)))))) l = refl
sum_at h k (suc (suc (suc (suc (suc (suc (suc zero))))))) l = refl
sum_at h k (suc (suc (suc (suc (suc (suc (suc (suc zero)))))))) l = refl
sum_at h k (suc (suc (suc (suc (suc (suc (suc (suc (suc zero))))))))) l = refl
sum_at h k (suc (suc (suc (suc (suc (suc (suc (suc (suc (suc n)))))))))) l = absurd (omega arith)

heads_sums : (h k : List ℕ) (la lb : ℕ) → HeadsIn h (400000 * la) → HeadsIn k (400000 * lb) → HeadsIn (heads_sum h k) (400000 * (la + lb))
heads_sums h k la lb x y i j =
    let a : get_or h i 0 ≤ 400000 * la = x i j in
    let b : get_or k i 0 ≤ 400000 * lb = y i j in
    let e : get_or (heads_sum h k) i 0 ≡ get_or h i 0 + get_or k i 0 = sum_at h k i j in omega arith

-- the first second and the last of the joined ones, by whether the first is empty
begins_sum : (la lb fa fb : ℕ) → beq (eqb fa 0) (eqb la 0) ≡ true → beq (eqb fb 0) (eqb lb 0) ≡ true
    → beq (eqb (cond (eqb la 0) fb fa) 0) (eqb (la + lb) 0) ≡ true
begins_sum zero lb fa fb x y = rw (none lb) y
begins_sum (suc la) lb fa fb x y = rw (full la lb, some la) (rw (some la) at x)

last_sum : (la lb fa fb : ℕ) → fa + la ≤ 4294967296 → fb + lb ≤ 4294967296 → follows la fa lb fb ≡ true → cond (eqb la 0) fb fa + (la + lb) ≤ 4294967296
last_sum zero lb fa fb x y e = let z : fb + (0 + lb) ≤ 4294967296 = omega arith in z
last_sum (suc la) zero fa fb x y e = rw (some la) (let z : fa + (suc la + 0) ≤ 4294967296 = omega arith in z)
last_sum (suc la) (suc lb) fa fb x y e =
    let p : eqb fb (fa + suc la) ≡ true = rw (some la, some lb) at e in
    let q : fb ≡ fa + suc la = eqb-true _ _ p in
    rw (some la) (let z : fa + (suc la + suc lb) ≤ 4294967296 = omega (arith, q) in z)

pub closed : Closed
unfolding added_of
closed a b x y e =
    let t : (leb (a.length + b.length) 86400 && follows_on a b) ≡ true = sym (accepts a b x.valid y.valid) ∙ e in
    let short : a.length + b.length ≤ 86400 = leb-true _ _ (and_left (leb (a.length + b.length) 86400) (follows_on a b) t) in
    let on : follows a.length a.first b.length b.first ≡ true = following a b (and_right (leb (a.length + b.length) 86400) (follows_on a b) t) in
    let p : Parts a = valid_parts a x.valid in
    let q : Parts b = valid_parts b y.valid in
    let m : a.frames ≤ 400000 * a.length = p.frames in
    let n : b.frames ≤ 400000 * b.length = q.frames in
    record {
      valid = parts_valid (added_of a b) (record {
        length = short;
        begins = begins_sum a.length b.length a.first b.first p.begins q.begins;
        last = last_sum a.length b.length a.first b.first p.last q.last on;
        frames = omega arith;
        heads = heads_sums a.heads b.heads a.length b.length p.heads q.heads;
        section = five_sums a.section b.section a.length b.length p.section q.section;
        path = five_sums a.path b.path a.length b.length p.path q.path;
      });
      ten = refl;
    }

-- Associative.

-- a test that is looked at only where another holds
guarded : (t u v : Bool) → (t ≡ true → u ≡ v) → (t && u) ≡ (t && v)
guarded true u v h = h refl
guarded false u v h = refl

four_tests : (a b c d : Bool) → ((a && b) && (c && d)) ≡ ((a && c) && (b && d))
four_tests true true c d = refl
four_tests true false c d = sym (and-false c)
four_tests false b c d = refl

after : (a b c : Summary) → Sound a → Sound b → Sound c → accepted a b ≡ true
    → accepted (added_of a b) c ≡ (leb (a.length + b.length + c.length) 86400 && follows_on (added_of a b) c)
unfolding added_of
after a b c x y z e = accepts (added_of a b) c (closed a b x y e).valid z.valid

before : (a b c : Summary) → Sound a → Sound b → Sound c → accepted b c ≡ true
    → accepted a (added_of b c) ≡ (leb (a.length + (b.length + c.length)) 86400 && follows_on a (added_of b c))
unfolding added_of
before a b c x y z e = accepts a (added_of b c) x.valid (closed b c y z e).valid

following_assoc : (a b c : Summary) → (follows_on a b && follows_on (added_of a b) c) ≡ (follows_on b c && follows_on a (added_of b c))
unfolding added_of follows_on
following_assoc a b c = follow_assoc a.length b.length c.length a.first b.first c.first

pub associative : EveryAssociative
associative a b c x y z =
    let ab : Summary = added_of a b in
    let bc : Summary = added_of b c in
    let A : Bool = leb (a.length + b.length) 86400 in
    let B : Bool = leb (b.length + c.length) 86400 in
    let C : Bool = leb (a.length + b.length + c.length) 86400 in
    let D : Bool = leb (a.length + (b.length + c.length)) 86400 in
    let left : (accepted a b && accepted ab c) ≡ ((A && follows_on a b) && (C && follows_on ab c)) =
    guarded (accepted a b) (accepted ab c) (C && follows_on ab c) (λ e. after a b c x y z e)
    ∙ ap (λ (t : Bool). t && (C && follows_on ab c)) (accepts a b x.valid y.valid) in
    let right : (accepted b c && accepted a bc) ≡ ((B && follows_on b c) && (D && follows_on a bc)) =
    guarded (accepted b c) (accepted a bc) (D && follows_on a bc) (λ e. before a b c x y z e)
    ∙ ap (λ (t : Bool). t && (D && follows_on a bc)) (accepts b c y.valid z.valid) in
    record {
      together =
          left
          ∙ four_tests A (follows_on a b) C (follows_on ab c)
          ∙ ap (λ (t : Bool). t && (follows_on a b && follows_on ab c)) (sum_assoc a.length b.length c.length)
          ∙ ap (λ (t : Bool). (B && D) && t) (following_assoc a b c)
          ∙ sym (four_tests B (follows_on b c) D (follows_on a bc))
          ∙ sym right;
      same = same_sum a b c;
    }

-- The unit.

pub ten_back : (h : List ℕ) → length h ≡ 10
    → get_or h 0 0 ∷ get_or h 1 0 ∷ get_or h 2 0 ∷ get_or h 3 0 ∷ get_or h 4 0 ∷ get_or h 5 0 ∷ get_or h 6 0 ∷ get_or h 7 0 ∷ get_or h 8 0 ∷ get_or h 9 0 ∷ [] ≡ h
ten_back (a ∷ b ∷ c ∷ d ∷ e ∷ f ∷ g ∷ h ∷ i ∷ j ∷ []) p = refl
ten_back [] p = absurd (omega arith)
ten_back (a ∷ []) p = absurd (omega arith)
ten_back (a ∷ b ∷ []) p = absurd (omega arith)
ten_back (a ∷ b ∷ c ∷ []) p = absurd (omega arith)
ten_back (a ∷ b ∷ c ∷ d ∷ []) p = absurd (omega arith)
ten_back (a ∷ b ∷ c ∷ d ∷ e ∷ []) p = absurd (omega arith)
ten_back (a ∷ b ∷ c ∷ d ∷ e ∷ f ∷ []) p = absurd (omega arith)
ten_back (a ∷ b ∷ c ∷ d ∷ e ∷ f ∷ g ∷ []) p = absurd (omega arith)
ten_back (a ∷ b ∷ c ∷ d ∷ e ∷ f ∷ g ∷ h ∷ []) p = absurd (omega arith)
ten_back (a ∷ b ∷ c ∷ d ∷ e ∷ f ∷ g ∷ h ∷ i ∷ []) p = absurd (omega arith)
ten_back (a ∷ b ∷ c ∷ d ∷ e ∷ f ∷ g ∷ h ∷ i ∷ j ∷ k ∷ l) p = absurd (omega arith)

true_is : (b : Bool) → beq b true ≡ true → b ≡ true
true_is true e = refl
true_is false e = e

module _ (a : Summary) (x : Sound a) where
  -- an empty one has the first second 0
  no_first : (l f : ℕ) → beq (eqb f 0) (eqb l 0) ≡ true → cond (eqb l 0) 0 f ≡ f
  no_first zero f e = sym (eqb-true f 0 (true_is (eqb f 0) e))
  no_first (suc l) f e = rw (some l)

  after_is : added_of a empty_summary ≡ a
  unfolding added_of
  after_is =
      let h : List ℕ = a.heads in
      rw (
        no_first a.length a.first (valid_parts a x.valid).begins,
        right a.length,
        right a.frames,
        right (get_or h 0 0),
        right (get_or h 1 0),
        right (get_or h 2 0),
        right (get_or h 3 0),
        right (get_or h 4 0),
        right (get_or h 5 0),
        right (get_or h 6 0),
        right (get_or h 7 0),
        right (get_or h 8 0),
        right (get_or h 9 0),
        ten_back h x.ten,
        right a.section.near,
        right a.section.far,
        right a.section.neards,
        right a.section.fards,
        right a.section.sum,
        right a.path.near,
        right a.path.far,
        right a.path.neards,
        right a.path.fards,
        right a.path.sum,
      )

  before_is : added_of empty_summary a ≡ a
  unfolding added_of
  before_is =
      let h : List ℕ = a.heads in
      rw (
        none a.length,
        none a.frames,
        none (get_or h 0 0),
        none (get_or h 1 0),
        none (get_or h 2 0),
        none (get_or h 3 0),
        none (get_or h 4 0),
        none (get_or h 5 0),
        none (get_or h 6 0),
        none (get_or h 7 0),
        none (get_or h 8 0),
        none (get_or h 9 0),
        ten_back h x.ten,
        none a.section.near,
        none a.section.far,
        none a.section.neards,
        none a.section.fards,
        none a.section.sum,
        none a.path.near,
        none a.path.far,
        none a.path.neards,
        none a.path.fards,
        none a.path.sum,
      )

empty_valid : valid_of empty_summary ≡ true
unfolding valid_of five_good heads_good
empty_valid = refl

place_after_lem : (a : Summary) → Parts a → place_refusal a empty_summary ≡ 0
unfolding place_refusal follows_on
place_after_lem a p = rw (right a.length, le-leb a.length 86400 p.length, or-true (eqb a.length 0))

place_before : (a : Summary) → Parts a → place_refusal empty_summary a ≡ 0
unfolding place_refusal follows_on
place_before a p = rw (none a.length, le-leb a.length 86400 p.length)

pub unit : EveryUnit
unit a x =
    let p : Parts a = valid_parts a x.valid in
    record {
      after = joins a empty_summary x.valid empty_valid (place_after_lem a p) ∙ ap joined (after_is a x);
      before = joins empty_summary a empty_valid x.valid (place_before a p) ∙ ap joined (before_is a x);
    }
