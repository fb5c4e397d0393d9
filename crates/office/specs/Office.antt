-- What `quarters` prints of a trace, by plain sums over the seconds that `ledger` lists (document 02, K6): no joining, and nothing kept from second to second. Assumes nothing.
use Rattle.std.specs.Prelude.{ℕ, zero, suc, ◌-◌, ◌*◌, ◌/◌, ◌≡◌, Bool, false, not, List, [], ◌++◌, length, take, drop}
use Rattle.summary.specs.Stretch.{summary_of}
use Rattle.summary.specs.declared.Summary.{Summary}
use Rattle.bins.specs.Bins.{closes, line_if}
use Rattle.stream.specs.Stream.{Scan, scan_of}
use Rattle.stream.specs.Figures.{lines_in}
use Rattle.lines.specs.Line.{end_lines}
use Rattle.reading.specs.Listing.{quarters_of}

-- the stretch of `size` seconds that second i lies in, up to it: "Quarter-hour q, from 0, is seconds 900q + 1 to 900q + 900"
abbrev pub stretch_to : ℕ → List (List ℕ) → ℕ → Summary
stretch_to size ss i = summary_of (drop (size * ((i - 1) / size)) (take i ss))

-- the lines of its quarter-hour and of its day, where they are to be put
abbrev pub lines_to : Bool → Bool → List (List ℕ) → ℕ → List ℕ
lines_to quarter day ss i = line_if quarter 81 900 (stretch_to 900 ss i) ++ line_if day 68 86400 (stretch_to 86400 ss i)

-- "in the order in which they are complete (a quarter before its day)": those that close with seconds 1 to n
unfoldable pub closed_to : List (List ℕ) → ℕ → List ℕ
closed_to ss zero = []
closed_to ss (suc n) = closed_to ss n ++ lines_to (closes 900 (suc n)) (closes 86400 (suc n)) ss (suc n)

-- "what is not complete at the end"
abbrev pub open_to : List (List ℕ) → ℕ → List ℕ
open_to ss n = lines_to (not (closes 900 n)) (not (closes 86400 n)) ss n

-- all that is printed: of the seconds, and then "R, P and E as `ledger` does"
unfoldable pub by_sums : List ℕ → List ℕ
by_sums xs =
    let c : Scan = scan_of false xs in
    let ss : List (List ℕ) = lines_in c in
    closed_to ss (length ss) ++ open_to ss (length ss) ++ end_lines c.refusal c.at c.state.sup.tandem.base.seconds c.frames

-- of every trace
abbrev pub EveryBySums : Type 0
EveryBySums = (xs : List ℕ) → quarters_of xs ≡ by_sums xs
