-- Quarter-hours and days (document 02, K6): "a summary beside the seconds: up to 86,400 seconds joined into one record, counts and heads added in 64 bits, DS as seconds
-- with DS; no tandem level's". "Seconds and summaries gain the sum" of the far end's violations (K7). Assumes nothing.
use Rattle.std.specs.Prelude.{ℕ, ◌+◌, ◌*◌, ◌≤◌, ◌<◌, Bool, cond, ◌&&◌, ◌||◌, List, [], ◌∷◌, ◌++◌, eqb, leb, get_or, replicate}
use Rattle.std.specs.Bool.{beq}
use Rattle.answer.specs.Checks.{Check, check, first_of}
use Rattle.summary.specs.declared.Five.{Five}
use Rattle.summary.specs.declared.Summary.{Summary}

-- "a DS above its length, or a count or head total above 400,000 times its length"; "A handed-in sum above 3,200,000 times the length is 26" (K7)
unfoldable pub five_good : Five → ℕ → ℕ → ℕ → Bool
five_good f most sums length = leb f.near most && leb f.far most && leb f.neards length && leb f.fards length && leb f.sum sums

unfoldable pub heads_good : List ℕ → ℕ → Bool
heads_good h most =
    leb (get_or h 0 0) most && leb (get_or h 1 0) most && leb (get_or h 2 0) most && leb (get_or h 3 0) most && leb (get_or h 4 0) most
    && leb (get_or h 5 0) most && leb (get_or h 6 0) most && leb (get_or h 7 0) most && leb (get_or h 8 0) most && leb (get_or h 9 0) most

-- "26 a handed-in summary with length above 86,400, first second 0 though not empty or the reverse, last second above 4,294,967,295, a DS above its length, or a
-- count or head total above 400,000 times its length"; the last second is first + length - 1. "A handed-in sum above 3,200,000 times the length is 26" (K7)
unfoldable pub valid_of : Summary → Bool
valid_of s =
    leb s.length 86400
    && beq (eqb s.first 0) (eqb s.length 0)
    && leb (s.first + s.length) 4294967296
    && leb s.frames (400000 * s.length)
    && heads_good s.heads (400000 * s.length)
    && five_good s.section (400000 * s.length) (3200000 * s.length) s.length
    && five_good s.path (400000 * s.length) (3200000 * s.length) s.length

-- the empty summary
abbrev pub no_five : Five
no_five = record { near = 0; far = 0; neards = 0; fards = 0; sum = 0 }

abbrev pub empty_summary : Summary
empty_summary = record { first = 0; length = 0; frames = 0; heads = replicate 10 0; section = no_five; path = no_five }

-- no number of a summary is above 3,200,000 times 86,400, so that none that is added up is beyond 64 bits
pub record FiveLow (f : Five) : Type 0 where
  pub near : f.near ≤ 276480000000
  pub far : f.far ≤ 276480000000
  pub neards : f.neards ≤ 276480000000
  pub fards : f.fards ≤ 276480000000
  pub sum : f.sum ≤ 276480000000

abbrev pub HeadsLow : List ℕ → Type 0
HeadsLow h = (i : ℕ) → i < 10 → get_or h i 0 ≤ 276480000000

-- all that is within these bounds of a summary that is one
pub record Low (s : Summary) : Type 0 where
  pub length : s.length ≤ 86400
  pub last : s.first + s.length ≤ 4294967296
  pub frames : s.frames ≤ 276480000000
  pub heads : HeadsLow s.heads
  pub section : FiveLow s.section
  pub path : FiveLow s.path

-- "counts and heads added in 64 bits, DS as seconds with DS"
abbrev pub five_sum : Five → Five → Five
five_sum f g = record { near = f.near + g.near; far = f.far + g.far; neards = f.neards + g.neards; fards = f.fards + g.fards; sum = f.sum + g.sum }

abbrev pub both_at : List ℕ → List ℕ → ℕ → ℕ
both_at h k i = get_or h i 0 + get_or k i 0

abbrev pub heads_sum : List ℕ → List ℕ → List ℕ
heads_sum h k =
    both_at h k 0 ∷ both_at h k 1 ∷ both_at h k 2 ∷ both_at h k 3 ∷ both_at h k 4 ∷ both_at h k 5 ∷ both_at h k 6 ∷ both_at h k 7 ∷ both_at h k 8 ∷ both_at h k 9 ∷ []

unfoldable pub added_of : Summary → Summary → Summary
added_of a b = record {
  first = cond (eqb a.length 0) b.first a.first;
  length = a.length + b.length;
  frames = a.frames + b.frames;
  heads = heads_sum a.heads b.heads;
  section = five_sum a.section b.section;
  path = five_sum a.path b.path;
}

-- "The first-second number must follow on; the empty summary, whose first second is 0, follows on from anything and any summary from it."
unfoldable pub follows_on : Summary → Summary → Bool
follows_on a b = eqb a.length 0 || eqb b.length 0 || eqb b.first (a.first + a.length)

-- "20 joined length above 86,400, 21 not following on; in the order 26, 20, 21"
abbrev pub place_checks : Summary → Summary → List Check
place_checks a b = check 20 (leb (a.length + b.length) 86400) ∷ check 21 (follows_on a b) ∷ []

unfoldable pub place_refusal : Summary → Summary → ℕ
place_refusal a b = first_of (place_checks a b)

abbrev pub join_checks : Summary → Summary → List Check
join_checks a b = check 26 (valid_of a) ∷ check 26 (valid_of b) ∷ place_checks a b

unfoldable pub join_refusal : Summary → Summary → ℕ
join_refusal a b = first_of (join_checks a b)

-- what joining comes to: `refusal` is 0 where the two are joined, and then `summary` is of both
pub record Joined : Type 0 where
  pub refusal : ℕ
  pub summary : Summary

-- two joined; where it is refused, the record has the empty summary beside the number, and the call answers the refusal alone
abbrev pub refused_with : ℕ → Joined
refused_with refusal = record { refusal = refusal; summary = empty_summary }

unfoldable pub join_of : Summary → Summary → Joined
join_of a b = cond (eqb (join_refusal a b) 0) (record { refusal = 0; summary = added_of a b }) (refused_with (join_refusal a b))

-- ten heads, and a layer's five, from their place in a list of numbers
abbrev pub heads_in : List ℕ → ℕ → List ℕ
heads_in f at =
    get_or f at 0 ∷ get_or f (at + 1) 0 ∷ get_or f (at + 2) 0 ∷ get_or f (at + 3) 0 ∷ get_or f (at + 4) 0
    ∷ get_or f (at + 5) 0 ∷ get_or f (at + 6) 0 ∷ get_or f (at + 7) 0 ∷ get_or f (at + 8) 0 ∷ get_or f (at + 9) 0 ∷ []

abbrev pub five_in : List ℕ → ℕ → Five
five_in f at = record { near = get_or f at 0; far = get_or f (at + 1) 0; neards = get_or f (at + 2) 0; fards = get_or f (at + 3) 0; sum = get_or f (at + 4) 0 }

-- one second by its 22 figures: number, frames, ten heads, the section's five, the path's five
unfoldable pub second_of : List ℕ → Summary
second_of f = record { first = get_or f 0 0; length = 1; frames = get_or f 1 0; heads = heads_in f 2; section = five_in f 12; path = five_in f 17 }

-- its 23 numbers in their order: first second, length, frames, ten heads, the section's five, the path's five
abbrev pub five_numbers : Five → List ℕ
five_numbers f = f.near ∷ f.far ∷ f.neards ∷ f.fards ∷ f.sum ∷ []

abbrev pub numbers_of : Summary → List ℕ
numbers_of s = s.first ∷ s.length ∷ s.frames ∷ (heads_in s.heads 0 ++ (five_numbers s.section ++ five_numbers s.path))

-- and the summary that they are
abbrev pub summary_by : List ℕ → Summary
summary_by v = record {
  first = get_or v 0 0;
  length = get_or v 1 0;
  frames = get_or v 2 0;
  heads = heads_in v 3;
  section = five_in v 13;
  path = five_in v 18;
}
