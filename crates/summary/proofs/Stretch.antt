-- Neighbouring stretches join to the summary of both. Assumes nothing.
use Prim.Native.Nat.{ℕ, zero, suc, ◌+◌, ◌*◌, ◌≤◌, ◌<◌}
use mathlib.Core.Path.{◌≡◌, refl, sym, ap, subst, ◌∙◌}
use mathlib.Core.Bool.{Bool, true, false, cond, beq}
use mathlib.Core.List.{List, [], ◌∷◌, ◌++◌, map, append_assoc, append-nil}
use native.Mathlib.Nat.{mul-suc}
use native.Mathlib.Omega.{arith}
use lib.Dec.{eqb}
use lib.ListN.{length, get_or, length-append}
use borrow.Author.Tests.{le-leb, eq-eqb, ne_eqb}
use Rattle.answer.specs.Bounded.{Bounded}
use Rattle.summary.specs.Summary.{valid_of, empty_summary, added_of, follows_on, place_refusal, join_of, second_of}
use Rattle.summary.specs.Laws.{joined}
use Rattle.summary.specs.Stretch.{total, seconds_with, five_at, heads_at, first_number, summary_of, SecondIn, Numbered, Neighbours, join_all, pieced, EveryCut, ten_of, Filed, HeadsWhole, SecondAlone, BoundedBoth, SummaryBounded}
use Rattle.summary.specs.declared.Summary.{Summary}
use Rattle.summary.proofs.Bounds.{FiveIn, HeadsIn, parts_valid}
use Rattle.summary.proofs.Joins.{joins}

-- sums over two stretches
total_both : (i : ℕ) (xs ys : List (List ℕ)) → total i (xs ++ ys) ≡ total i xs + total i ys
unfolding total
total_both i [] ys = let z : total i ys ≡ 0 + total i ys = omega arith in z
total_both i (s ∷ xs) ys = let e = total_both i xs ys in omega (arith, e)

with_both : (i : ℕ) (xs ys : List (List ℕ)) → seconds_with i (xs ++ ys) ≡ seconds_with i xs + seconds_with i ys
unfolding seconds_with
with_both i [] ys = let z : seconds_with i ys ≡ 0 + seconds_with i ys = omega arith in z
with_both i (s ∷ xs) ys = let e = with_both i xs ys in omega (arith, e)

-- their bounds
total_low : (i most : ℕ) → ((s : List ℕ) → SecondIn s → get_or s i 0 ≤ most) → (n : ℕ) (ss : List (List ℕ)) → Numbered n ss → total i ss ≤ most * length ss
unfolding total
total_low i most low n [] h = omega arith
total_low i most low n (s ∷ ss) h =
    let a : get_or s i 0 ≤ most = low s h.1.0 in
    let b : total i ss ≤ most * length ss = total_low i most low (suc n) ss h.1.1 in
    let c : most * suc (length ss) ≡ most * length ss + most = mul-suc most (length ss) in omega (arith, c)

one_low : (b : Bool) → cond b 0 1 ≤ 1
one_low true = omega arith
one_low false = omega arith

with_low : (i : ℕ) (ss : List (List ℕ)) → seconds_with i ss ≤ length ss
unfolding seconds_with
with_low i [] = omega arith
with_low i (s ∷ ss) =
    let a : cond (eqb (get_or s i 0) 0) 0 1 ≤ 1 = one_low (eqb (get_or s i 0) 0) in
    let b : seconds_with i ss ≤ length ss = with_low i ss in omega arith

-- the summary of a numbered stretch is one
module _ (n : ℕ) (ss : List (List ℕ)) (one : 1 ≤ n) (h : Numbered n ss) where
  section_in_lem : FiveIn (five_at 12 ss) (400000 * length ss) (3200000 * length ss) (length ss)
  section_in_lem = record {
    near = total_low 12 400000 (λ s p. p.section.near) n ss h;
    far = total_low 13 400000 (λ s p. p.section.far) n ss h;
    neards = with_low 14 ss;
    fards = with_low 15 ss;
    sum = total_low 16 3200000 (λ s p. p.section.sum) n ss h;
  }

  path_in_lem : FiveIn (five_at 17 ss) (400000 * length ss) (3200000 * length ss) (length ss)
  path_in_lem = record {
    near = total_low 17 400000 (λ s p. p.path.near) n ss h;
    far = total_low 18 400000 (λ s p. p.path.far) n ss h;
    neards = with_low 19 ss;
    fards = with_low 20 ss;
    sum = total_low 21 3200000 (λ s p. p.path.sum) n ss h;
  }

  head_low : (i : ℕ) → i < 10 → total (i + 2) ss ≤ 400000 * length ss
  head_low i k = total_low (i + 2) 400000 (λ s p. p.heads i k) n ss h

  heads_in_lem : HeadsIn (heads_at ss) (400000 * length ss)
  heads_in_lem zero k = head_low 0 k
  heads_in_lem (suc zero) k = head_low 1 k
  heads_in_lem (suc (suc zero)) k = head_low 2 k
  heads_in_lem (suc (suc (suc zero))) k = head_low 3 k
  heads_in_lem (suc (suc (suc (suc zero)))) k = head_low 4 k
  heads_in_lem (suc (suc (suc (suc (suc zero))))) k = head_low 5 k
  heads_in_lem (suc (suc (suc (suc (suc (suc zero)))))) k = head_low 6 k
  heads_in_lem (suc (suc (suc (suc (suc (suc (suc zero))))))) k = head_low 7 k
  heads_in_lem (suc (suc (suc (suc (suc (suc (suc (suc zero)))))))) k = head_low 8 k
  heads_in_lem (suc (suc (suc (suc (suc (suc (suc (suc (suc zero))))))))) k = head_low 9 k
  heads_in_lem (suc (suc (suc (suc (suc (suc (suc (suc (suc (suc j)))))))))) k = absurd (omega arith)

-- its first second
first_is : (n : ℕ) (ss : List (List ℕ)) → Numbered n ss → first_number ss ≡ cond (eqb (length ss) 0) 0 n
first_is n [] h = refl
first_is n (s ∷ ss) h = rw (ne_eqb (length (s ∷ ss)) 0 (λ e. omega (arith, e))) h.0

begins_is : (n : ℕ) (ss : List (List ℕ)) → 1 ≤ n → Numbered n ss → beq (eqb (first_number ss) 0) (eqb (length ss) 0) ≡ true
begins_is n [] one h = refl
begins_is n (s ∷ ss) one h =
    let e : get_or s 0 0 ≡ n = h.0 in
    rw (ne_eqb (get_or s 0 0) 0 (λ z. omega (arith, e, z)), ne_eqb (length (s ∷ ss)) 0 (λ z. omega (arith, z)))

last_is : (n : ℕ) (ss : List (List ℕ)) → n + length ss ≤ 4294967296 → Numbered n ss → first_number ss + length ss ≤ 4294967296
last_is n [] k h = omega arith
last_is n (s ∷ ss) k h = let e : get_or s 0 0 ≡ n = h.0 in omega (arith, e)

pub stretch_valid : (n : ℕ) (ss : List (List ℕ)) → 1 ≤ n → n + length ss ≤ 4294967296 → length ss ≤ 86400 → Numbered n ss → valid_of (summary_of ss) ≡ true
unfolding summary_of
stretch_valid n ss one last long h =
    parts_valid (summary_of ss) (record {
      length = long;
      begins = begins_is n ss one h;
      last = last_is n ss last h;
      frames = total_low 1 400000 (λ s p. p.frames) n ss h;
      heads = heads_in_lem n ss one h;
      section = section_in_lem n ss one h;
      path = path_in_lem n ss one h;
    })

-- two neighbours
first_both : (n : ℕ) (xs ys : List (List ℕ)) → cond (eqb (length xs) 0) (first_number ys) (first_number xs) ≡ first_number (xs ++ ys)
first_both n [] ys = refl
first_both n (s ∷ xs) ys = rw (ne_eqb (length (s ∷ xs)) 0 (λ z. omega (arith, z)))

long_both : (xs ys : List (List ℕ)) → length (xs ++ ys) ≡ length xs + length ys
long_both xs ys = length-append xs ys

both_is : (n : ℕ) (xs ys : List (List ℕ)) → added_of (summary_of xs) (summary_of ys) ≡ summary_of (xs ++ ys)
unfolding added_of summary_of
both_is n xs ys =
    let t : (i : ℕ) → total i (xs ++ ys) ≡ total i xs + total i ys = λ i. total_both i xs ys in
    let w : (i : ℕ) → seconds_with i (xs ++ ys) ≡ seconds_with i xs + seconds_with i ys = λ i. with_both i xs ys in
    rw (first_both n xs ys, long_both xs ys, t 1, t 2, t 3, t 4, t 5, t 6, t 7, t 8, t 9, t 10, t 11, t 12, t 13, w 14, w 15, t 16, t 17, t 18, w 19, w 20, t 21)

follows_is : (n : ℕ) (xs ys : List (List ℕ)) → Numbered n xs → Numbered (n + length xs) ys → follows_on (summary_of xs) (summary_of ys) ≡ true
unfolding follows_on summary_of
follows_is n [] ys h k = refl
follows_is n (s ∷ xs) [] h k = rw (ne_eqb (length (s ∷ xs)) 0 (λ z. omega (arith, z)))
follows_is n (s ∷ xs) (t ∷ ys) h k =
    let e : get_or s 0 0 ≡ n = h.0 in
    let f : get_or t 0 0 ≡ n + length (s ∷ xs) = k.0 in
    rw (
      ne_eqb (length (s ∷ xs)) 0 (λ z. omega (arith, z)),
      ne_eqb (length (t ∷ ys)) 0 (λ z. omega (arith, z)),
      eq-eqb (get_or t 0 0) (get_or s 0 0 + length (s ∷ xs)) (omega (arith, e, f)),
    )

long_is : (xs ys : List (List ℕ)) → (summary_of xs).length + (summary_of ys).length ≡ length xs + length ys
unfolding summary_of
long_is xs ys = refl

place_is : (n : ℕ) (xs ys : List (List ℕ)) → length xs + length ys ≤ 86400 → Numbered n xs → Numbered (n + length xs) ys → place_refusal (summary_of xs) (summary_of ys) ≡ 0
unfolding place_refusal
place_is n xs ys long h k = rw (long_is xs ys, le-leb (length xs + length ys) 86400 long, follows_is n xs ys h k)

pub neighbours : Neighbours
neighbours n xs ys one last long h k =
    joins (summary_of xs) (summary_of ys) (stretch_valid n xs one (omega arith) (omega arith) h) (stretch_valid (n + length xs) ys (omega arith) (omega arith) (omega arith) k) (place_is n xs ys long h k)
    ∙ ap joined (both_is n xs ys)

-- Cut into any pieces.

front : (n : ℕ) (xs ys : List (List ℕ)) → Numbered n (xs ++ ys) → Numbered n xs
front n [] ys h = tt
front n (s ∷ xs) ys h = (h.0, (h.1.0, front (suc n) xs ys h.1.1))

behind : (n : ℕ) (xs ys : List (List ℕ)) → Numbered n (xs ++ ys) → Numbered (n + length xs) ys
behind n [] ys h = let e : n ≡ n + 0 = omega arith in subst (λ (m : ℕ). Numbered m ys) e h
behind n (s ∷ xs) ys h =
    let e : suc n + length xs ≡ n + length (s ∷ xs) = omega arith in
    subst (λ (m : ℕ). Numbered m ys) e (behind (suc n) xs ys h.1.1)

cut : (n : ℕ) (xs : List (List ℕ)) (cs : List (List (List ℕ))) → 1 ≤ n → n + length (xs ++ pieced cs) ≤ 4294967296 → length (xs ++ pieced cs) ≤ 86400
    → Numbered n (xs ++ pieced cs) → join_all (summary_of xs) (map summary_of cs) ≡ joined (summary_of (xs ++ pieced cs))
unfolding join_all pieced
cut n xs [] one last long h = ap (λ (l : List (List ℕ)). joined (summary_of l)) (sym (append-nil xs))
cut n xs (c ∷ cs) one last long h =
    let a : (xs ++ c) ++ pieced cs ≡ xs ++ (c ++ pieced cs) = append_assoc xs c (pieced cs) in
    let h2 : Numbered n ((xs ++ c) ++ pieced cs) = subst (λ (l : List (List ℕ)). Numbered n l) (sym a) h in
    let h3 : Numbered n (xs ++ c) = front n (xs ++ c) (pieced cs) h2 in
    let p : length (xs ++ (c ++ pieced cs)) ≡ length xs + length (c ++ pieced cs) = length-append xs (c ++ pieced cs) in
    let q : length (c ++ pieced cs) ≡ length c + length (pieced cs) = length-append c (pieced cs) in
    let e : join_of (summary_of xs) (summary_of c) ≡ joined (summary_of (xs ++ c)) =
    neighbours n xs c one (omega (arith, p, q)) (omega (arith, p, q)) (front n xs c h3) (behind n xs c h3) in
    rw (e, ← a) (cut n (xs ++ c) cs one (rw a last) (rw a long) h2)

no_second : summary_of [] ≡ empty_summary
unfolding summary_of total seconds_with
no_second = refl

pub every_cut : EveryCut
every_cut n cs one last long h = ap (λ (s : Summary). join_all s (map summary_of cs)) (sym no_second) ∙ cut n [] cs one last long h

-- Heads.

totals : (ss : List (List ℕ)) → Filed ss → ten_of (λ (i : ℕ). total (i + 2) ss) ≡ total 1 ss
unfolding total
totals [] h = refl
totals (s ∷ ss) h =
    let a : ten_of (λ (i : ℕ). get_or s (i + 2) 0) ≡ get_or s 1 0 = h.0 in
    let b : ten_of (λ (i : ℕ). total (i + 2) ss) ≡ total 1 ss = totals ss h.1 in
    omega (arith, a, b)

pub heads_whole : HeadsWhole
unfolding summary_of
heads_whole ss h = totals ss h

-- One second.

flag_is : (x : ℕ) → x ≤ 1 → cond (eqb x 0) 0 1 + 0 ≡ x
flag_is zero h = refl
flag_is (suc zero) h = refl
flag_is (suc (suc n)) h = absurd (omega arith)

pub second_alone : SecondAlone
unfolding second_of summary_of total seconds_with
second_alone f a b c d =
    let r : (i : ℕ) → get_or f i 0 + 0 ≡ get_or f i 0 = λ i. omega arith in
    rw (flag_is (get_or f 14 0) a, flag_is (get_or f 15 0) b, flag_is (get_or f 19 0) c, flag_is (get_or f 20 0) d, r 1, r 2, r 3, r 4, r 5, r 6, r 7, r 8, r 9, r 10, r 11, r 12, r 13, r 16, r 17, r 18, r 21)

-- The sum and the far blocks.

both_bounded : (f s g t : ℕ) → Bounded f s → Bounded g t → Bounded (f + g) (s + t)
both_bounded f s g t a b =
    let c : f ≤ s = a.0 in
    let d : s ≤ 8 * f = a.1 in
    let e : g ≤ t = b.0 in
    let h : t ≤ 8 * g = b.1 in (omega arith, omega arith)

pub bounds : SummaryBounded
unfolding summary_of total
bounds [] h = record { section = (omega arith, omega arith); path = (omega arith, omega arith) }
bounds (s ∷ ss) h =
    let r : BoundedBoth (summary_of ss) = bounds ss h.1.1 in
    record {
      section = both_bounded (get_or s 13 0) (get_or s 16 0) (total 13 ss) (total 16 ss) h.0 r.section;
      path = both_bounded (get_or s 18 0) (get_or s 21 0) (total 18 ss) (total 21 ss) h.1.0 r.path;
    }
