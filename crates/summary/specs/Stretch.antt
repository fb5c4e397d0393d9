-- The summary of a stretch of reported seconds, by plain sums, and what joining does to two that are neighbours (document 02, K6). A second is its figures, as an S line and the record of
-- otn_mark have them: number, frames, ten heads, then near-end and far-end blocks, near DS, far DS and the sum of the far end's violations, of section and path. Assumes nothing.
use Rattle.std.specs.Prelude.{ℕ, suc, ◌+◌, ◌≤◌, ◌<◌, ◌≡◌, cond, List, [], ◌∷◌, ◌++◌, map, eqb, length, get_or}
use Rattle.answer.specs.Bounded.{Bounded}
use Rattle.summary.specs.Summary.{empty_summary, Joined, join_of, second_of}
use Rattle.summary.specs.Laws.{joined}
use Rattle.summary.specs.declared.Five.{Five}
use Rattle.summary.specs.declared.Summary.{Summary}

-- "counts and heads added", and the sums: a figure, by its place, over all seconds
unfoldable pub total : ℕ → List (List ℕ) → ℕ
total i [] = 0
total i (s ∷ ss) = get_or s i 0 + total i ss

-- "DS as seconds with DS": in how many seconds it stands
unfoldable pub seconds_with : ℕ → List (List ℕ) → ℕ
seconds_with i [] = 0
seconds_with i (s ∷ ss) = cond (eqb (get_or s i 0) 0) 0 1 + seconds_with i ss

-- a layer's five from its place on, and the ten heads
abbrev pub five_at : ℕ → List (List ℕ) → Five
five_at i ss = record { near = total i ss; far = total (i + 1) ss; neards = seconds_with (i + 2) ss; fards = seconds_with (i + 3) ss; sum = total (i + 4) ss }

abbrev pub heads_at : List (List ℕ) → List ℕ
heads_at ss = total 2 ss ∷ total 3 ss ∷ total 4 ss ∷ total 5 ss ∷ total 6 ss ∷ total 7 ss ∷ total 8 ss ∷ total 9 ss ∷ total 10 ss ∷ total 11 ss ∷ []

-- the number of the first second, 0 where there is none
abbrev pub first_number : List (List ℕ) → ℕ
first_number [] = 0
first_number (s ∷ ss) = get_or s 0 0

unfoldable pub summary_of : List (List ℕ) → Summary
summary_of ss = record {
  first = first_number ss;
  length = length ss;
  frames = total 1 ss;
  heads = heads_at ss;
  section = five_at 12 ss;
  path = five_at 17 ss;
}

-- A second as one is reported: a count or head is 400,000 at most, and a sum of violations 3,200,000. A layer's figures stand from place i on.
pub record LayerIn (s : List ℕ) (i : ℕ) : Type 0 where
  pub near : get_or s i 0 ≤ 400000
  pub far : get_or s (i + 1) 0 ≤ 400000
  pub sum : get_or s (i + 4) 0 ≤ 3200000

pub record SecondIn (s : List ℕ) : Type 0 where
  pub frames : get_or s 1 0 ≤ 400000
  pub heads : (i : ℕ) → i < 10 → get_or s (i + 2) 0 ≤ 400000
  pub section : LayerIn s 12
  pub path : LayerIn s 17

-- a stretch of such seconds, numbered from n on
abbrev pub Numbered : ℕ → List (List ℕ) → Type 0
Numbered n [] = Unit {0}
Numbered n (s ∷ ss) = (get_or s 0 0 ≡ n) × (SecondIn s × Numbered (suc n) ss)

-- "the summaries of two neighbouring stretches join to the summary of both", where either may be empty
abbrev pub Neighbours : Type 0
Neighbours = (n : ℕ) (xs ys : List (List ℕ)) → 1 ≤ n → n + (length xs + length ys) ≤ 4294967296 → length xs + length ys ≤ 86400
    → Numbered n xs → Numbered (n + length xs) ys → join_of (summary_of xs) (summary_of ys) ≡ joined (summary_of (xs ++ ys))

-- Summaries joined one after the other; the first refusal ends it. So a quarter-hour is joined of its 900 seconds, and a day of its 96 quarter-hours: whatever a stretch is cut into.
unfoldable pub join_all : Summary → List Summary → Joined
join_all s [] = joined s
join_all s (t ∷ ts) = let j : Joined = join_of s t in cond (eqb j.refusal 0) (join_all j.summary ts) j

unfoldable pub pieced : List (List (List ℕ)) → List (List ℕ)
pieced [] = []
pieced (c ∷ cs) = c ++ pieced cs

abbrev pub EveryCut : Type 0
EveryCut = (n : ℕ) (cs : List (List (List ℕ))) → 1 ≤ n → n + length (pieced cs) ≤ 4294967296 → length (pieced cs) ≤ 86400 → Numbered n (pieced cs)
    → join_all empty_summary (map summary_of cs) ≡ joined (summary_of (pieced cs))

-- the ten heads of a second, and of a stretch, add up to its frames
abbrev pub ten_of : (ℕ → ℕ) → ℕ
ten_of h = h 0 + h 1 + h 2 + h 3 + h 4 + h 5 + h 6 + h 7 + h 8 + h 9

abbrev pub Filed : List (List ℕ) → Type 0
Filed [] = Unit {0}
Filed (s ∷ ss) = (ten_of (λ (i : ℕ). get_or s (i + 2) 0) ≡ get_or s 1 0) × Filed ss

abbrev pub HeadsWhole : Type 0
HeadsWhole = (ss : List (List ℕ)) → Filed ss → ten_of (λ (i : ℕ). get_or (summary_of ss).heads i 0) ≡ (summary_of ss).frames

-- a second whose DS are 0 or 1, as one is reported, is its own stretch
abbrev pub SecondAlone : Type 0
SecondAlone = (f : List ℕ) → get_or f 14 0 ≤ 1 → get_or f 15 0 ≤ 1 → get_or f 19 0 ≤ 1 → get_or f 20 0 ≤ 1 → second_of f ≡ summary_of (f ∷ [])

-- in the section and in the path of each second
abbrev pub EachBounded : List (List ℕ) → Type 0
EachBounded [] = Unit {0}
EachBounded (s ∷ ss) = Bounded (get_or s 13 0) (get_or s 16 0) × (Bounded (get_or s 18 0) (get_or s 21 0) × EachBounded ss)

-- and so in the section and in the path of their summary
pub record BoundedBoth (s : Summary) : Type 0 where
  pub section : Bounded s.section.far s.section.sum
  pub path : Bounded s.path.far s.path.sum

abbrev pub SummaryBounded : Type 0
SummaryBounded = (ss : List (List ℕ)) → EachBounded ss → BoundedBoth (summary_of ss)
