-- A second by the figures of its line is the second by all its figures: what it closes, and what is open after it. Assumes nothing.
use Prim.Native.Nat.{ℕ, ◌≤◌, ◌<◌}
use mathlib.Core.Path.{◌≡◌, ◌∙◌}
use mathlib.Core.Bool.{Bool}
use mathlib.Core.List.{List}
use native.Mathlib.Omega.{arith}
use lib.ListN.{length, get_or, take, drop, get_or-append}
use lib.Seq.{get_or-take, length-take-le}
use Rattle.summary.specs.Summary.{second_of}
use Rattle.bins.specs.Bins.{bins_with}
use Rattle.bins.specs.declared.Bins.{Bins}
use Rattle.tandem.specs.Levels.{listed_of, given_groups}
use Rattle.tandem.specs.declared.Level.{Level}
use Rattle.trace.specs.declared.State.{State}
use Rattle.stream.specs.Stream.{second, last_listed}
use Rattle.lines.specs.Line.{line_by, open_after, reported_text, opened_by}

module _ (ls : List Level) (v : List ℕ) (h : 22 ≤ length v) where
  pub listed_at : (i : ℕ) → i < 22 → get_or (listed_of ls v) i 0 ≡ get_or v i 0
  listed_at i k = get_or-append (take 22 v) (given_groups ls (drop 22 v)) 0 i (omega (arith, length-take-le 22 v h)) ∙ get_or-take 22 v i 0 k

  listed_second : second_of (listed_of ls v) ≡ second_of v
  unfolding second_of
  listed_second =
      rw (
        listed_at 0 (omega arith),
        listed_at 1 (omega arith),
        listed_at 2 (omega arith),
        listed_at 3 (omega arith),
        listed_at 4 (omega arith),
        listed_at 5 (omega arith),
        listed_at 6 (omega arith),
        listed_at 7 (omega arith),
        listed_at 8 (omega arith),
        listed_at 9 (omega arith),
        listed_at 10 (omega arith),
        listed_at 11 (omega arith),
        listed_at 12 (omega arith),
        listed_at 13 (omega arith),
        listed_at 14 (omega arith),
        listed_at 15 (omega arith),
        listed_at 16 (omega arith),
        listed_at 17 (omega arith),
        listed_at 18 (omega arith),
        listed_at 19 (omega arith),
        listed_at 20 (omega arith),
        listed_at 21 (omega arith),
      )

  pub listed_with : (b : Bins) → bins_with b (listed_of ls v) ≡ bins_with b v
  unfolding bins_with
  listed_with b = rw listed_second

-- by the figures of its line, and by all its figures
module _ (b : Bins) (st : State) (h : length st.last ≡ 52) where
  abbrev ls : List Level
  ls = st.sup.tandem.levels

  pub reported_by : (office : Bool) → line_by office b (second (last_listed st)) ≡ reported_text office b st
  unfolding line_by
  reported_by office = rw (listed_with ls st.last (omega arith) b, listed_at ls st.last (omega arith) 0 (omega arith))

  pub opened_by_lem : open_after b (second (last_listed st)) ≡ opened_by b st
  unfolding open_after
  opened_by_lem = rw (listed_with ls st.last (omega arith) b, listed_at ls st.last (omega arith) 0 (omega arith))
