-- The open quarter-hour and the open day while seconds are reported, and the lines of `quarters` (document 02, K6): "Quarter-hour q, from 0, is seconds 900q + 1 to 900q + 900,
-- and its summary is the joining of those." Assumes nothing.
use Rattle.std.specs.Prelude.{ℕ, ◌-◌, ◌/◌, ◌%◌, Bool, cond, List, [], ◌∷◌, ◌++◌, eqb, ltb, get_or}
use Rattle.listing.specs.Text.{text_line}
use Rattle.summary.specs.Summary.{empty_summary, join_of, second_of, numbers_of}
use Rattle.summary.specs.declared.Summary.{Summary}
use Rattle.bins.specs.declared.Bins.{Bins}

abbrev pub no_bins : Bins
no_bins = record { quarter = empty_summary; day = empty_summary }

-- the 22 figures of line, section and path
abbrev pub without_levels : List ℕ → List ℕ
without_levels f =
    get_or f 0 0 ∷ get_or f 1 0 ∷ get_or f 2 0 ∷ get_or f 3 0 ∷ get_or f 4 0 ∷ get_or f 5 0 ∷ get_or f 6 0 ∷ get_or f 7 0 ∷ get_or f 8 0 ∷ get_or f 9 0
    ∷ get_or f 10 0 ∷ get_or f 11 0 ∷ get_or f 12 0 ∷ get_or f 13 0 ∷ get_or f 14 0 ∷ get_or f 15 0 ∷ get_or f 16 0 ∷ get_or f 17 0 ∷ get_or f 18 0 ∷ get_or f 19 0
    ∷ get_or f 20 0 ∷ get_or f 21 0 ∷ []

-- a second, by its figures, joined to both
unfoldable pub bins_with : Bins → List ℕ → Bins
bins_with b f = record { quarter = (join_of b.quarter (second_of f)).summary; day = (join_of b.day (second_of f)).summary }

-- a stretch of `size` seconds closes with the second whose number is a multiple of it
abbrev pub closes : ℕ → ℕ → Bool
closes size n = eqb (n % size) 0

-- what closes with second n is empty after it
abbrev pub kept_of : Bool → Summary → Summary
kept_of closed s = cond closed empty_summary s

unfoldable pub opened_of : Bins → ℕ → Bins
opened_of b n = record { quarter = kept_of (closes 900 n) b.quarter; day = kept_of (closes 86400 n) b.day }

-- the number, from 0, of the quarter-hour or day that a second lies in
abbrev pub bin_number : ℕ → ℕ → ℕ
bin_number first size = cond (eqb first 0) 0 ((first - 1) / size)

-- a line: its letter, its number, and the summary's numbers; `Q` for a quarter-hour, `D` for a day
abbrev pub bin_line : ℕ → ℕ → Summary → List ℕ
bin_line letter size s = text_line letter (bin_number s.first size ∷ numbers_of s)

abbrev pub line_if : Bool → ℕ → ℕ → Summary → List ℕ
line_if print letter size s = cond print (bin_line letter size s) []

-- "a quarter before its day"
unfoldable pub bin_lines : Bool → Bool → Bins → List ℕ
bin_lines quarter day b = line_if quarter 81 900 b.quarter ++ line_if day 68 86400 b.day

-- the lines of what closes with second n, and of what is open at the end: the rest of a quarter or a day with its own length
abbrev pub closed_lines : Bins → ℕ → List ℕ
closed_lines b n = bin_lines (closes 900 n) (closes 86400 n) b

abbrev pub rest_lines : Bins → List ℕ
rest_lines b = bin_lines (ltb 0 b.quarter.length) (ltb 0 b.day.length) b
