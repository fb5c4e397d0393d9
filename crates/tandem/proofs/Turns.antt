-- What a turn of each loop over the six levels makes. Assumes nothing.
use Prim.Native.Nat.{ℕ, zero, suc, ◌+◌, ◌-◌, ◌*◌, ◌<◌, ◌≤◌}
use mathlib.Core.Path.{◌≡◌, refl, sym, ap, ◌∙◌}
use mathlib.Core.Bool.{Bool, true, false, cond, ◌&&◌}
use mathlib.Core.List.{List, [], ◌∷◌, ◌++◌, append_assoc, append-nil}
use native.Mathlib.Numerals.{add-one}
use native.Mathlib.Omega.{arith}
use lib.ListN.{length, get_or, take, drop, set, replicate, length-set, length-append, length-take, length-drop, get_or-replicate}
use lib.Seq.{take_all, take_at, drop-drop, drop-set-lt, get_or-drop, set-get_or, take-suc, length-take-le}
use lib.Dec.{leb}
use borrow.Rule.Slice.PartMut.{put_mid}
use Rattle.std.specs.List.{list_all}
use Rattle.std.proofs.lemmas.List.Folds.{list_all_more}
use Rattle.std.proofs.lemmas.Slice.{take-put_mid}
use Rattle.answer.specs.Each.{each_from}
use Rattle.answer.proofs.Each.{turn, turned}
use Rattle.answer.proofs.Cond.{by_cond}
use Rattle.answer.specs.Over.{over}
use Rattle.overhead.specs.declared.Field.{Field}
use Rattle.overhead.specs.Overhead.{level_field}
use Rattle.alignment.specs.declared.Multi.{Multi}
use Rattle.tandem.specs.Levels.{stepped_level, marked_level, frame_rule, five_of, level_figures, given_groups, listed_of, listed_in, low_to}
use Rattle.tandem.specs.Tandem.{nothing, level_shown}
use Rattle.tandem.specs.declared.Level.{Level}
use Rattle.tandem.specs.declared.Listed.{Listed}

-- A list as far as a loop has come that changes each element in its place: the first i are those of the rule, the others as they were at the start.
abbrev pub SoFar : {A : Type 0} → (ℕ → A → A) → List A → List A → ℕ → Type 0
SoFar f xs l i = (length l ≡ length xs) × (take i l ≡ take i (each_from f 1 xs)) × (drop i l ≡ drop i xs)

pub begins : {A : Type 0} (f : ℕ → A → A) (xs : List A) → SoFar f xs xs 0
begins f xs = (refl, refl, refl)

-- of what is as it was: the element that is next, and the others
pub next_same : {A : Type 0} (l xs : List A) (i : ℕ) (d : A) → drop i l ≡ drop i xs → get_or l i d ≡ get_or xs i d
next_same {A} l xs i d e =
    let z : i + 0 ≡ i = omega arith in
    rw z at (sym (get_or-drop i l 0 d) ∙ ap (λ (x : List A). get_or x 0 d) e ∙ get_or-drop i xs 0 d)

rest_same : {A : Type 0} (l xs : List A) (i : ℕ) → drop i l ≡ drop i xs → drop (i + 1) l ≡ drop (i + 1) xs
rest_same l xs i e = sym (drop-drop 1 i l) ∙ ap (drop 1) e ∙ drop-drop 1 i xs

-- a turn
pub changed : {A : Type 0} (f : ℕ → A → A) (xs l : List A) (i : ℕ) (a b : A)
    → SoFar f xs l i → i < length xs → b ≡ f (1 + i) (get_or l i a) → SoFar f xs (set l i b) (i + 1)
changed f xs l i a b s h e =
    let n = s.0 in
    let g : i < length l = omega arith in
    let t = turn f 1 xs l i a b s.1 g h (e ∙ ap (f (1 + i)) (next_same l xs i a s.2)) in
    (simp length-set n, t, drop-set-lt (i + 1) l i b (omega arith) ∙ rest_same l xs i s.2)

-- a turn that passes over its element, since it is by the rule what it was
pub passed_over : {A : Type 0} (f : ℕ → A → A) (xs l after : List A) (i : ℕ) (a : A)
    → SoFar f xs l i → i < length xs → get_or l i a ≡ f (1 + i) (get_or l i a) → after ≡ l → SoFar f xs after (i + 1)
passed_over f xs l after i a s h e w = rw w (rw (set-get_or l i a) at (changed f xs l i a (get_or l i a) s h e))

-- A list of six as far as a loop has come that makes it from another and passes over some: the first i are those of the rule, the others as they were at
-- the start.
abbrev pub MadeSoFar : {A B : Type 0} → (ℕ → A → B) → List A → List B → List B → ℕ → Type 0
MadeSoFar f xs start l i = (i ≤ 6) × (length l ≡ 6) × (take i l ≡ take i (each_from f 1 xs)) × (drop i l ≡ drop i start)

-- a turn that makes its element, and one that passes over it
pub turn_made : {A B : Type 0} (f : ℕ → A → B) (xs : List A) (start l after : List B) (i : ℕ) (a : A) (b : B)
    → MadeSoFar f xs start l i → i < 6 → length xs ≡ 6 → b ≡ f (1 + i) (get_or xs i a) → after ≡ set l i b → MadeSoFar f xs start after (i + 1)
turn_made f xs start l after i a b s h n e w =
    let t = turn f 1 xs l i a b s.2 (omega arith) (omega arith) e in
    let d = drop-set-lt (i + 1) l i b (omega arith) ∙ rest_same l start i s.3 in
    rw w (omega arith, simp length-set s.1, t, d)

pub turn_passed : {A B : Type 0} (f : ℕ → A → B) (xs : List A) (start l after : List B) (i : ℕ) (a : A) (b : B)
    → MadeSoFar f xs start l i → i < 6 → length xs ≡ 6 → get_or start i b ≡ f (1 + i) (get_or xs i a) → after ≡ l → MadeSoFar f xs start after (i + 1)
turn_passed f xs start l after i a b s h n e w =
    turn_made f xs start l after i a (get_or l i b) s h n (next_same l start i b s.3 ∙ e) (w ∙ sym (set-get_or l i b))

-- a level that is not provisioned is after a frame and after a mark what it was
pub frame_stays : (l : Level) (ssf : Bool) (m : Multi) (f : Field) (n : ℕ) → l.given ≡ false → l ≡ stepped_level l ssf m f n
unfolding stepped_level
frame_stays l ssf m f n e = rw e

pub mark_stays : (l : Level) → l.given ≡ false → l ≡ marked_level l
unfolding marked_level
mark_stays l e = rw e

-- and nothing stands of it
pub shown_nothing : (l : Level) (ssf : Bool) (i : ℕ) → i < 6 → l.given ≡ false → get_or (replicate 6 nothing) i nothing ≡ level_shown l ssf
unfolding level_shown
shown_nothing l ssf i h e = rw e (get_or-replicate 6 i nothing nothing h)

-- the loop's end
pub changed_all : {A : Type 0} (f : ℕ → A → A) (xs l : List A) (n : ℕ) → SoFar f xs l n → length xs ≤ n → l ≡ each_from f 1 xs
changed_all f xs l n s h =
    let e = s.0 in
    turned f 1 xs l n s.1 (omega arith) h

-- two rules, one after the other
pub each_each : {A B C : Type 0} (f : ℕ → A → B) (g : ℕ → B → C) (n : ℕ) (xs : List A)
    → each_from (λ k x. g k (f k x)) n xs ≡ each_from g n (each_from f n xs)
each_each f g n [] = refl
each_each f g n (x ∷ xs) = ap (λ l. g n (f n x) ∷ l) (each_each f g (suc n) xs)

-- the level at index i, with field i + 1 and the count at i, is that of the rule for number 1 + i
pub frame_turn : (l : Level) (ssf : Bool) (m : Multi) (o counts : List ℕ) (i : ℕ) (r : Level)
    → r ≡ stepped_level l ssf m (level_field o (i + 1)) (get_or counts i 0) → r ≡ frame_rule ssf m o counts (1 + i) l
frame_turn l ssf m o counts i r e =
    let a : 1 + i ≡ i + 1 = omega arith in
    let b : i + 1 - 1 ≡ i = omega arith in
    rw (a, b) e

-- a level has five figures
pub five_long : (l : Level) → length (five_of l) ≡ 5
unfolding five_of
five_long l = by_cond (λ (x : List ℕ). length x ≡ 5) l.given (λ _. refl) (λ _. refl)

pub figures_long : (ls : List Level) → length (level_figures ls) ≡ 5 * length ls
unfolding level_figures
figures_long [] = refl
figures_long (l ∷ ls) = simp (length-append, five_long l, figures_long ls) (omega arith)

-- the figures of one level more
figures_append : (ls : List Level) (l : Level) → level_figures (ls ++ (l ∷ [])) ≡ level_figures ls ++ five_of l
unfolding level_figures
figures_append [] l = append-nil (five_of l)
figures_append (x ∷ ls) l = ap (λ (v : List ℕ). five_of x ++ v) (figures_append ls l) ∙ sym (append_assoc (five_of x) (level_figures ls) (five_of l))

-- the twenty-two written first
pub figures_begin : (base x zeros : List ℕ) → length x ≡ 22 → x ≡ base → take (22 + 5 * 0) (x ++ zeros) ≡ base ++ level_figures []
unfolding level_figures
figures_begin base x zeros n e = take_at x zeros 22 n ∙ e ∙ sym (append-nil base)

pub begin_long : (x zeros : List ℕ) → length x ≡ 22 → length zeros ≡ 30 → length (x ++ zeros) ≡ 52
begin_long x zeros n m = rw (length-append x zeros, n, m)

-- a turn of the loop that writes a level's five behind those of the levels before it
pub figures_turn : (base : List ℕ) (ls : List Level) (i k : ℕ) (d : Level) (out five : List ℕ) → i < length ls → 22 + 5 * i ≤ length out
    → take (22 + 5 * i) out ≡ base ++ level_figures (take i ls) → five ≡ five_of (get_or ls i d)
    → take (22 + 5 * (i + 1)) (put_mid (22 + 5 * i) k out five) ≡ base ++ level_figures (take (i + 1) ls)
figures_turn base ls i k d out five h room e ef =
    let w : level_figures (take (i + 1) ls) ≡ level_figures (take i ls) ++ five_of (get_or ls i d) =
    rw (add-one, take-suc ls i d) (figures_append (take i ls) (get_or ls i d)) in
    let n : length five ≡ 5 = ap length ef ∙ five_long (get_or ls i d) in
    take-put_mid (22 + 5 * i) k out five (22 + 5 * (i + 1)) (omega arith) room
    ∙ rw (e, ef, w) (append_assoc base (level_figures (take i ls)) (five_of (get_or ls i d)))

-- what is written within a list leaves its length
pub put_long : (out five : List ℕ) (at k : ℕ) {n : ℕ} → length out ≡ n → length five ≡ k → at + k ≤ n → length (put_mid at k out five) ≡ n
put_long out five at k e f h = simp (length-append, length-drop, length-take-le at out (omega arith)) (omega arith)

take_low : (n : ℕ) (l : List ℕ) → length (take n l) ≤ n
take_low n l = simp length-take (omega arith)

-- the groups of one level more
groups_append : (ls : List Level) (l : Level) (figures : List ℕ)
    → given_groups (ls ++ (l ∷ [])) figures ≡ given_groups ls figures ++ cond l.given (take 5 (drop (5 * length ls) figures)) []
unfolding given_groups
groups_append [] l figures = append-nil _
groups_append (x ∷ ls) l figures =
    let g : List ℕ = cond x.given (take 5 figures) [] in
    let e : 5 + 5 * length ls ≡ 5 * length (x ∷ ls) = omega arith in
    let h = rw (drop-drop (5 * length ls) 5 figures, e) at (groups_append ls l (drop 5 figures)) in
    ap (λ (v : List ℕ). g ++ v) h ∙ sym (append_assoc g _ _)

-- the figures of an S line when level i + 1 is listed too: its group behind the others
listed_more : (ls : List Level) (figures : List ℕ) (i : ℕ) (d : Level) → i < length ls
    → listed_of (take (i + 1) ls) figures ≡ listed_of (take i ls) figures ++ cond (get_or ls i d).given (take 5 (drop (22 + 5 * i) figures)) []
listed_more ls figures i d h =
    let m : length (take i ls) ≡ i = length-take-le i ls (omega arith) in
    let g = rw (m, drop-drop (5 * i) 22 figures) at (groups_append (take i ls) (get_or ls i d) (drop 22 figures)) in
    rw (add-one, take-suc ls i d, g) (sym (append_assoc (take 22 figures) _ _))

-- a turn of the loop that appends a level's group, which has no more than five, where it is provisioned, and one of a level that is not
pub listed_turn : (ls : List Level) (figures : List ℕ) (i w : ℕ) (d : Level) (l after : List ℕ) → i < length ls → w ≡ 5 → (get_or ls i d).given ≡ true
    → length l ≤ 22 + 5 * i → l ≡ listed_of (take i ls) figures → after ≡ l ++ take w (drop (22 + 5 * i) figures)
    → (length after ≤ 22 + 5 * (i + 1)) × (after ≡ listed_of (take (i + 1) ls) figures)
listed_turn ls figures i w d l after h five g low el ea =
    let e = rw g at (listed_more ls figures i d h) in
    let k = take_low w (drop (22 + 5 * i) figures) in
    let m : length after ≡ length l + length (take w (drop (22 + 5 * i) figures)) = ap length ea ∙ length-append l _ in
    (omega arith, rw (ea, five, el) (sym e))

pub listed_passed : (ls : List Level) (figures : List ℕ) (i : ℕ) (d : Level) (l : List ℕ) → i < length ls → (get_or ls i d).given ≡ false
    → l ≡ listed_of (take i ls) figures → l ≡ listed_of (take (i + 1) ls) figures
listed_passed ls figures i d l h g el =
    let e = rw g at (listed_more ls figures i d h) in
    el ∙ sym (e ∙ append-nil _)

-- each of the first n counts is at most 8
low_all : (n : ℕ) (counts : List ℕ) → n ≤ length counts → list_all (λ c. leb c 8) (take n counts) ≡ low_to n counts
unfolding low_to
low_all zero counts h = refl
low_all (suc n) counts h =
    let e = list_all_more (λ c. leb c 8) counts n 0 (omega arith) in
    (rw add-one at e) ∙ ap (λ b. b && leb (get_or counts n 0) 8) (low_all n counts (omega arith))

pub six_low : (counts : List ℕ) → length counts ≡ 6 → low_to 6 counts ≡ list_all (λ c. leb c 8) counts
six_low counts h = sym (low_all 6 counts (omega arith)) ∙ ap (list_all (λ c. leb c 8)) (take_all 6 counts (omega arith))

-- the listed figures at the start of an array, and how many they are
pub array_is : (v w d : List ℕ) (n : ℕ) → d ≡ replicate 52 0 → w ≡ v → n ≡ length v → ◌≡◌ {A = Listed} (record { figures = w ++ drop n d; n = n }) (listed_in v)
unfolding over
array_is v w d n z e h =
    let k : length v ≡ 0 + length v = omega arith in
    rw (z, e, h) (ap {B = Listed} (λ (m : ℕ). record { figures = v ++ drop m (replicate 52 0); n = length v }) k)
