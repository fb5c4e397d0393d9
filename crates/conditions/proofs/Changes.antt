-- Laws of the text of one condition, and of as many as a loop has passed. Assumes nothing.
use Rattle.std.proofs.Common.{ℕ, zero, suc, ◌+◌, ◌*◌, ◌≤◌, ◌<◌, ◌≡◌, Bool, true, false, List, [], ◌∷◌, ◌++◌, length, take, min, refl, sym, ap, ◌∙◌, arith, rules}
use Rattle.std.proofs.lemmas.List.{append_assoc, append-nil, length-append}
use Rattle.std.proofs.Math.ListN.{get_or}
use Rattle.causes.specs.declared.Report.{Report}
use Rattle.level.specs.declared.LevelStands.{LevelStands}
use Rattle.std.specs.Borrow.{Bor}
use Rattle.conditions.specs.Told.{told}
use Rattle.conditions.specs.Conditions.{Named, conditions, change_of, changes_of, condition_changes, level_prefix, level_words, under, level_changes}

change_short : (name : List ℕ) (before after : Bool) → length (change_of name before after) ≤ 2 + length name
unfolding change_of
change_short name true true = omega arith
change_short name true false = omega arith
change_short name false true = omega arith
change_short name false false = omega arith

-- no name is longer than m
abbrev Short : ℕ → List Named → Type 0
Short m [] = Unit {0}
Short m (x ∷ xs) = (length x.name ≤ m) × Short m xs

short : (m : ℕ) (xs ys : List Named) → Short m ys → length (changes_of xs ys) ≤ (2 + m) * length ys
unfolding changes_of
short m [] [] s = omega arith
short m [] (y ∷ ys) s = omega arith
short m (x ∷ xs) [] s = omega arith
short m (x ∷ xs) (y ∷ ys) s = rw length-append (omega (arith, change_short y.name x.stands y.stands, short m xs ys s.1, s.0))

pub changes_short : (b a : Report) → length (condition_changes b a) ≤ 380
unfolding condition_changes conditions
changes_short b a = omega (arith, short 8 (conditions b) (conditions a) (search rules))

pub level_short : (n : ℕ) (b a : LevelStands) → length (level_changes n b a) ≤ 228
unfolding level_changes level_words under
level_short n b a = omega (arith, short 10 (under (level_prefix n) (level_words b)) (under (level_prefix n) (level_words a)) (search rules))

-- the first n conditions of both lists, and one more
pub change_more : (p : List ℕ) (bs cs : List (Bor (List ℕ) × Bool)) (n : ℕ) (b a : Bor (List ℕ) × Bool) → n < length bs → n < length cs
    → ((d : Bor (List ℕ) × Bool) → b ≡ get_or bs n d) → ((d : Bor (List ℕ) × Bool) → a ≡ get_or cs n d)
    → changes_of (take (suc n) (under p (told bs))) (take (suc n) (under p (told cs)))
    ≡ changes_of (take n (under p (told bs))) (take n (under p (told cs))) ++ change_of (p ++ a.0.now) b.1 a.1
unfolding changes_of under
change_more p [] cs n b a h k e f = absurd (omega arith)
change_more p (x ∷ bs) [] n b a h k e f = absurd (omega arith)
change_more p (x ∷ bs) (y ∷ cs) zero b a h k e f = rw (e b, f a, append-nil)
change_more p (x ∷ bs) (y ∷ cs) (suc n) b a h k e f =
    ap (λ (l : List ℕ). change_of (p ++ y.0.now) x.1 y.1 ++ l) (change_more p bs cs n b a (omega arith) (omega arith) e f)
    ∙ sym (append_assoc (change_of (p ++ y.0.now) x.1 y.1) (changes_of (take n (under p (told bs))) (take n (under p (told cs)))) (change_of (p ++ a.0.now) b.1 a.1))

-- they are no longer than all
change_part : (n : ℕ) (xs ys : List Named) → length (changes_of (take n xs) (take n ys)) ≤ length (changes_of xs ys)
unfolding changes_of
change_part zero xs ys = omega arith
change_part (suc n) [] [] = omega arith
change_part (suc n) [] (y ∷ ys) = omega arith
change_part (suc n) (x ∷ xs) [] = omega arith
change_part (suc n) (x ∷ xs) (y ∷ ys) =
    let one = change_of y.name x.stands y.stands in
    let part : length (changes_of (take (suc n) (x ∷ xs)) (take (suc n) (y ∷ ys))) ≡ length one + length (changes_of (take n xs) (take n ys)) = length-append one (changes_of (take n xs) (take n ys)) in
    let all : length (changes_of (x ∷ xs) (y ∷ ys)) ≡ length one + length (changes_of xs ys) = length-append one (changes_of xs ys) in
    omega (arith, part, all, change_part n xs ys)

-- one more has room where all have
pub change_fits : (p : List ℕ) (bs cs : List (Bor (List ℕ) × Bool)) (n : ℕ) (b a : Bor (List ℕ) × Bool) → n < length bs → n < length cs
    → ((d : Bor (List ℕ) × Bool) → b ≡ get_or bs n d) → ((d : Bor (List ℕ) × Bool) → a ≡ get_or cs n d)
    → length (changes_of (take n (under p (told bs))) (take n (under p (told cs)))) + length (change_of (p ++ a.0.now) b.1 a.1)
    ≤ length (changes_of (under p (told bs)) (under p (told cs)))
change_fits p bs cs n b a h k e f =
    let so_far = changes_of (take n (under p (told bs))) (take n (under p (told cs))) in
    let both = ap (λ (l : List ℕ). length l) (change_more p bs cs n b a h k e f) ∙ length-append so_far (change_of (p ++ a.0.now) b.1 a.1) in
    omega (arith, both, change_part (suc n) (under p (told bs)) (under p (told cs)))

-- all of them
pub change_all : (p : List ℕ) (bs cs : List (Bor (List ℕ) × Bool)) (n : ℕ) → n ≡ min (length bs) (length cs)
    → changes_of (take n (under p (told bs))) (take n (under p (told cs))) ≡ changes_of (under p (told bs)) (under p (told cs))
unfolding changes_of under
change_all p [] [] zero e = refl
change_all p [] [] (suc n) e = refl
change_all p [] (y ∷ cs) zero e = refl
change_all p [] (y ∷ cs) (suc n) e = refl
change_all p (x ∷ bs) [] zero e = refl
change_all p (x ∷ bs) [] (suc n) e = refl
change_all p (x ∷ bs) (y ∷ cs) zero e = absurd (omega arith)
change_all p (x ∷ bs) (y ∷ cs) (suc n) e = ap (λ (l : List ℕ). change_of (p ++ y.0.now) x.1 y.1 ++ l) (change_all p bs cs n (omega arith))

pub under_none : (xs : List Named) → under [] xs ≡ xs
unfolding under
under_none [] = refl
under_none (x ∷ xs) = ap (λ (l : List Named). x ∷ l) (under_none xs)
