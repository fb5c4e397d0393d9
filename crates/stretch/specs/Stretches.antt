-- Stretches of the seconds that a history reports (document 02, K6): "the summaries of two neighbouring stretches join to the summary of both"; quarter-hours and days.
-- Assumes nothing.
use Rattle.std.specs.Prelude.{ℕ, zero, suc, ◌+◌, ◌*◌, ◌≤◌, ◌≡◌, List, [], ◌∷◌, ◌++◌, get_or}
use Rattle.settings.specs.declared.Settings.{Settings}
use Rattle.settings.specs.Ranges.{SettingsIn}
use Rattle.supervisor.specs.Supervisor.{fresh_of}
use Rattle.tandem.specs.Tandem.{fresh_tandem}
use Rattle.watch.specs.Watch.{LevelCall, AllTaken}
use Rattle.late.specs.Late.{fresh_late}
use Rattle.reports.specs.Reports.{late_at, calls_tell, end_tells, marks_in, second_at}
use Rattle.summary.specs.Summary.{empty_summary, join_of, second_of}
use Rattle.summary.specs.Laws.{Sound, joined}
use Rattle.summary.specs.Stretch.{summary_of, join_all, ten_of, BoundedBoth}
use Rattle.summary.specs.declared.Summary.{Summary}

-- n seconds from second i on, by their figures as they are reported
unfoldable pub seconds_from : Settings → List LevelCall → ℕ → ℕ → List (List ℕ)
seconds_from p cs i zero = []
seconds_from p cs i (suc n) = second_at p cs i ∷ seconds_from p cs (suc i) n

-- their summary
abbrev pub stretch : Settings → List LevelCall → ℕ → ℕ → Summary
stretch p cs i n = summary_of (seconds_from p cs i n)

-- each by itself, as a summary of one second
unfoldable pub singles : Settings → List LevelCall → ℕ → ℕ → List Summary
singles p cs i zero = []
singles p cs i (suc n) = second_of (second_at p cs i) ∷ singles p cs (suc i) n

-- "Quarter-hour q, from 0, is seconds 900q + 1 to 900q + 900"; n quarter-hours from q on; a day has 96
abbrev pub quarter_of : Settings → List LevelCall → ℕ → Summary
quarter_of p cs q = stretch p cs (900 * q + 1) 900

unfoldable pub quarters : Settings → List LevelCall → ℕ → ℕ → List Summary
quarters p cs q zero = []
quarters p cs q (suc n) = quarter_of p cs q ∷ quarters p cs (suc q) n

abbrev pub day_of : Settings → List LevelCall → ℕ → Summary
day_of p cs d = stretch p cs (86400 * d + 1) 86400

-- Of a history with m marks, seconds 1 to m are reported: any stretch of them.
pub record Stretches (p : Settings) (cs : List LevelCall) : Type 0 where
  -- they are all that is told, at the marks and at the end
  pub told : calls_tell (fresh_late (fresh_tandem (fresh_of p))) cs ++ end_tells (late_at p cs) ≡ seconds_from p cs 1 (marks_in cs)
  -- the summary of a stretch within the limit is one by 26
  pub sound : (i n : ℕ) → 1 ≤ i → i + n ≤ marks_in cs + 1 → n ≤ 86400 → Sound (stretch p cs i n)
  -- "the summaries of two neighbouring stretches join to the summary of both", where either may be empty
  pub neighbours : (i n m : ℕ) → 1 ≤ i → i + (n + m) ≤ marks_in cs + 1 → n + m ≤ 86400
      → join_of (stretch p cs i n) (stretch p cs (i + n) m) ≡ joined (stretch p cs i (n + m))
  -- what a mark has reported stays, whatever is called after it
  pub stays : (more : List LevelCall) (i n : ℕ) → 1 ≤ i → i + n ≤ marks_in cs → stretch p (cs ++ more) i n ≡ stretch p cs i n
  -- a second by itself is a stretch of one
  pub single : (i : ℕ) → 1 ≤ i → i ≤ marks_in cs → second_of (second_at p cs i) ≡ stretch p cs i 1
  -- "and its summary is the joining of those": a quarter-hour whose seconds are all reported; and a day of its 96 quarter-hours
  pub quarter : (q : ℕ) → 900 * q + 900 ≤ marks_in cs → join_all empty_summary (singles p cs (900 * q + 1) 900) ≡ joined (quarter_of p cs q)
  pub day : (d : ℕ) → 86400 * d + 86400 ≤ marks_in cs → join_all empty_summary (quarters p cs (96 * d) 96) ≡ joined (day_of p cs d)
  -- in section and path "the sum is at least the far blocks and at most eight times them" (document 02, K7), as in each of the seconds
  pub bounded : (i n : ℕ) → 1 ≤ i → i + n ≤ marks_in cs + 1 → BoundedBoth (stretch p cs i n)
  -- the ten heads add up to the frames
  pub whole : (i n : ℕ) → 1 ≤ i → i + n ≤ marks_in cs + 1 → ten_of (λ (h : ℕ). get_or (stretch p cs i n).heads h 0) ≡ (stretch p cs i n).frames

-- of every list of accepted calls
abbrev pub EveryStretches : Type 0
EveryStretches = (p : Settings) → SettingsIn p → (cs : List LevelCall) → AllTaken (fresh_tandem (fresh_of p)) cs → Stretches p cs
