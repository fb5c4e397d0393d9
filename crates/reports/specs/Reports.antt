-- What is reported of each second, by the calls alone (document 02, K3; G.798 13.2.1.2, 14.5.1.1.3, notes 4 to 6): no pending second between the calls and what
-- is told of them. Tallies and discards are the page's and the sheet's. Assumes nothing.
use Rattle.std.specs.Prelude.{◌≡◌, Bool, false, cond, ◌||◌, List, [], ◌∷◌, ◌++◌, map, reverse, ℕ, zero, suc, ◌+◌, ◌*◌, ◌≤◌, eqb, ltb, get_or, take, drop, replicate}
use Rattle.answer.specs.Bits.{flag}
use Rattle.answer.specs.Bounded.{Bounded}
use Rattle.settings.specs.declared.Settings.{Settings}
use Rattle.settings.specs.declared.Options.{Options}
use Rattle.settings.specs.Ranges.{SettingsIn}
use Rattle.supervisor.specs.Supervisor.{fresh_of}
use Rattle.history.specs.History.{Event}
use Rattle.history.specs.Ledger.{sum_of, marks as marks_among}
use Rattle.page.specs.Page as page
use Rattle.tandem.specs.Tandem.{fresh_tandem, marked_of}
use Rattle.watch.specs.Watch.{LevelCall, gives, records, frames, marks, tandem_by, AllTaken, events_among}
use Rattle.sheet.specs.Sheet as sheet
use Rattle.sheet.specs.Sheet.{LevelEvent, plainly, events_of, Provisioned, never, with, provisioned, reached}
use Rattle.late.specs.Late.{fresh_late, pending_of, late_marked}
use Rattle.late.specs.declared.Late.{Late}

-- Lists of calls, in their order of time, by the contracts: the supervisor with its pending second after a call, and after a list of them from fresh. Of the
-- calls a mark alone moves the pending second.
unfoldable pub late_by : Late → LevelCall → Late
late_by s (gives n r names) = record { tandem = tandem_by s.tandem (gives n r names); pending = s.pending }
late_by s (records n r names) = record { tandem = tandem_by s.tandem (records n r names); pending = s.pending }
late_by s (frames f counts) = record { tandem = tandem_by s.tandem (frames f counts); pending = s.pending }
late_by s marks = (late_marked s).late

unfoldable pub late_after : Late → List LevelCall → Late
late_after s [] = s
late_after s (c ∷ cs) = late_after (late_by s c) cs

abbrev pub late_at : Settings → List LevelCall → Late
late_at p cs = late_after (fresh_late (fresh_tandem (fresh_of p))) cs

-- the figures that a mark reports, that a list of calls reports in its order, and that are told at the end: of the pending second, if there is one
abbrev pub mark_tells : Late → List (List ℕ)
mark_tells s = cond (late_marked s).told ((late_marked s).figures ∷ []) []

unfoldable pub calls_tell : Late → List LevelCall → List (List ℕ)
calls_tell s [] = []
calls_tell s (gives n r names ∷ cs) = calls_tell (late_by s (gives n r names)) cs
calls_tell s (records n r names ∷ cs) = calls_tell (late_by s (records n r names)) cs
calls_tell s (frames f counts ∷ cs) = calls_tell (late_by s (frames f counts)) cs
calls_tell s (marks ∷ cs) = mark_tells s ++ calls_tell (late_by s marks) cs

abbrev pub end_tells : Late → List (List ℕ)
end_tells s = cond (pending_of s).told ((pending_of s).figures ∷ []) []

-- The same by the calls alone. The history of calls, the latest first, with the levels' counts and as line, section and path have it; and its marks.
abbrev pub history_of : List LevelCall → List LevelEvent
history_of cs = reverse (events_of cs)

abbrev pub plain_of : List LevelCall → List Event
plain_of cs = plainly (history_of cs)

abbrev pub marks_in : List LevelCall → ℕ
marks_in cs = marks_among (events_among cs)

-- the calls before mark i, the first being 1: those whose open second the mark closes as second i
unfoldable pub before_mark : ℕ → List LevelCall → List LevelCall
before_mark i [] = []
before_mark i (gives n r names ∷ cs) = gives n r names ∷ before_mark i cs
before_mark i (records n r names ∷ cs) = records n r names ∷ before_mark i cs
before_mark i (frames f counts ∷ cs) = frames f counts ∷ before_mark i cs
before_mark zero (marks ∷ cs) = []
before_mark (suc zero) (marks ∷ cs) = []
before_mark (suc (suc i)) (marks ∷ cs) = marks ∷ before_mark (suc i) cs

-- the second behind one that is closed, by the calls before its own mark: it may not be closed yet
pub data Next : Type 0 where
  not_yet : Next
  closes : List LevelCall → Next

-- "of its own and the earlier second": whether something holds of the second of the calls, or of the one behind it where that is closed
abbrev pub either : (List LevelCall → Bool) → List LevelCall → Next → Bool
either q cs not_yet = q cs
either q cs (closes next) = q cs || q next

-- The section's four figures: near-end and far-end blocks, near and far DS. "pIAE discards near and far values .., pBIAE the far values".
abbrev pub section_four : Settings → List LevelCall → Next → List ℕ
section_four p cs next =
    let iae : Bool = either (λ k. page.discarded p (plain_of k)) cs next in
    let far : Bool = either (λ k. page.far_discarded p (plain_of k)) cs next in
    cond iae 0 (page.tally (page.section_near p) (plain_of cs))
    ∷ cond far 0 (page.tally (page.section_far p) (plain_of cs))
    ∷ flag (cond iae false (page.some (page.section_near_ds p) (plain_of cs)))
    ∷ flag (cond far false (page.some (λ f l. page.section_bdi p (f ∷ l)) (plain_of cs)))
    ∷ []

-- The sum of far-end violations of the section: the total over the frames whose far-end block is counted; "it is discarded .. as the far block count is" (document 02, K7).
abbrev pub section_sum : Settings → List LevelCall → Next → ℕ
section_sum p cs next =
    let far : Bool = either (λ k. page.far_discarded p (plain_of k)) cs next in
    cond far 0 (page.total (page.section_violations p) (plain_of cs))

-- "The sum comes last in each layer's group"
abbrev pub section_five : Settings → List LevelCall → Next → List ℕ
section_five p cs next = section_four p cs next ++ (section_sum p cs next ∷ [])

-- those of level n, provisioned with the options o
abbrev pub level_four : Settings → ℕ → Options → List LevelCall → Next → List ℕ
level_four p n o cs next =
    let iae : Bool = either (λ k. sheet.discarded p n o (history_of k)) cs next in
    let far : Bool = either (λ k. sheet.far_discarded p n o (history_of k)) cs next in
    cond iae 0 (page.yes (sheet.nears p n (history_of cs)))
    ∷ cond far 0 (page.tally (sheet.far p n) (plain_of cs))
    ∷ flag (cond iae false (page.some (sheet.near_ds p n o) (plain_of cs)))
    ∷ flag (cond far false (page.some (sheet.far_ds p n o) (plain_of cs)))
    ∷ []

abbrev pub level_sum : Settings → ℕ → Options → List LevelCall → Next → ℕ
level_sum p n o cs next =
    let far : Bool = either (λ k. sheet.far_discarded p n o (history_of k)) cs next in
    cond far 0 (page.total (sheet.violations p n) (plain_of cs))

-- zeros where it is not provisioned; and the groups of k levels from n on
unfoldable pub group_by : Settings → ℕ → Provisioned → List LevelCall → Next → List ℕ
group_by p n never cs next = replicate 5 0
group_by p n (with o) cs next = level_four p n o cs next ++ (level_sum p n o cs next ∷ [])

unfoldable pub groups_from : ℕ → ℕ → Settings → List LevelCall → Next → List ℕ
groups_from zero n p cs next = []
groups_from (suc k) n p cs next = group_by p n (provisioned n cs) cs next ++ groups_from k (suc n) p cs next

-- The fifty-two figures of the second that a mark behind the calls closes: number, frames, heads and path as on the page, for "The ledger's heads are untouched".
unfoldable pub report_of : Settings → List LevelCall → Next → List ℕ
report_of p cs next =
    (take 12 (page.figures p (plain_of cs)) ++ (section_five p cs next ++ drop 17 (page.figures p (plain_of cs)))) ++ groups_from 6 1 p cs next

-- What was reported of it before there were sums, in the same words, and its figures without them: the first twelve, then four of each five.
abbrev pub path_four : Settings → List LevelCall → List ℕ
path_four p cs =
    page.path_near_blocks p (plain_of cs)
    ∷ page.tally (page.path_far p) (plain_of cs)
    ∷ flag (page.some (page.path_near_ds p) (plain_of cs))
    ∷ flag (page.some (λ f l. page.path_bdi p (f ∷ l)) (plain_of cs))
    ∷ []

unfoldable pub group_before : Settings → ℕ → Provisioned → List LevelCall → Next → List ℕ
group_before p n never cs next = replicate 4 0
group_before p n (with o) cs next = level_four p n o cs next

unfoldable pub groups_before : ℕ → ℕ → Settings → List LevelCall → Next → List ℕ
groups_before zero n p cs next = []
groups_before (suc k) n p cs next = group_before p n (provisioned n cs) cs next ++ groups_before k (suc n) p cs next

abbrev pub report_before : Settings → List LevelCall → Next → List ℕ
report_before p cs next = take 12 (page.figures p (plain_of cs)) ++ (section_four p cs next ++ (path_four p cs ++ groups_before 6 1 p cs next))

unfoldable pub fours_in : ℕ → List ℕ → List ℕ
fours_in zero v = []
fours_in (suc k) v = take 4 v ++ fours_in k (drop 5 v)

abbrev pub without_sums : List ℕ → List ℕ
without_sums v = take 12 v ++ fours_in 8 (drop 12 v)

-- far blocks and all else that is reported are as they were before K7
abbrev pub SameBefore : Type 0
SameBefore = (p : Settings) (cs : List LevelCall) (next : Next) → without_sums (report_of p cs next) ≡ report_before p cs next

-- second i of calls with m marks: the one behind it is closed where i < m
abbrev pub second_at : Settings → List LevelCall → ℕ → List ℕ
second_at p cs i = report_of p (before_mark i cs) (cond (ltb i (marks_in cs)) (closes (before_mark (i + 1) cs)) not_yet)

-- 1 to m
unfoldable pub up_to : ℕ → List ℕ
up_to zero = []
up_to (suc m) = up_to m ++ (suc m ∷ [])

-- Demand 3 of a reported second, by its figures: the frames under the ten heads add up to the frames; neither of the path's block counts is more than the frames
-- under heads 0 and 9.
pub record LineDemand3 (v : List ℕ) : Type 0 where
  pub sum : sum_of (take 10 (drop 2 v)) ≡ get_or v 1 0
  pub near_most : get_or v 17 0 ≤ get_or v 2 0 + get_or v 11 0
  pub far_most : get_or v 18 0 ≤ get_or v 2 0 + get_or v 11 0

-- "In each reported second the sum is at least the far blocks and at most eight times them." (document 02, K7): in section, path and each level
pub record SumBounds (v : List ℕ) : Type 0 where
  pub section : Bounded (get_or v 13 0) (get_or v 16 0)
  pub path : Bounded (get_or v 18 0) (get_or v 21 0)
  pub level : (n : ℕ) → 1 ≤ n → n ≤ 6 → Bounded (get_or v (18 + 5 * n) 0) (get_or v (21 + 5 * n) 0)

-- Reported: second i of m marks is told exactly once and in order, at mark i + 1, or at the end where i = m.
pub record Reported (p : Settings) (cs : List LevelCall) : Type 0 where
  -- the supervisor itself is what it is without a pending second: dDEG "still uses the second just closed, with its own discard alone"
  pub same : (late_at p cs).tandem ≡ reached p cs
  -- the next mark, where it is accepted, reports nothing if none is closed, and else the second closed last
  pub mark : (marked_of (reached p cs)).refusal ≡ 0
      → mark_tells (late_at p cs) ≡ cond (eqb (marks_in cs) 0) [] (second_at p (cs ++ (marks ∷ [])) (marks_in cs) ∷ [])
  -- the end tells it as it stands
  pub last : end_tells (late_at p cs) ≡ cond (eqb (marks_in cs) 0) [] (second_at p cs (marks_in cs) ∷ [])
  -- all that is told, in its order
  pub all : calls_tell (fresh_late (fresh_tandem (fresh_of p))) cs ++ end_tells (late_at p cs) ≡ map (second_at p cs) (up_to (marks_in cs))
  pub demand : (i : ℕ) → 1 ≤ i → i ≤ marks_in cs → LineDemand3 (second_at p cs i)
  pub bounds : (i : ℕ) → 1 ≤ i → i ≤ marks_in cs → SumBounds (second_at p cs i)

-- of every list of accepted calls
abbrev pub EveryReported : Type 0
EveryReported = (p : Settings) → SettingsIn p → (cs : List LevelCall) → AllTaken (fresh_tandem (fresh_of p)) cs → Reported p cs
