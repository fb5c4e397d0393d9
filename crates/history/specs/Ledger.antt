-- Demand 3 of a closed second: its figures by its frames, and not by a counter. Assumes nothing.
use Rattle.std.specs.Prelude.{◌≡◌, Bool, false, cond, not, ◌&&◌, ◌||◌, List, [], ◌∷◌, ◌++◌, map, ℕ, ◌+◌, ◌<◌, ◌≤◌, leb, eqb, length, get_or}
use Rattle.overhead.specs.Overhead.{overhead_of, far_block}
use Rattle.causes.specs.Causes.{ssf_of, path_ssf, path_down, head_of}
use Rattle.second.specs.Second.{closed_of}
use Rattle.answer.specs.Bits.{flag}
use Rattle.answer.specs.Bounded.{Bounded}
use Rattle.supervisor.specs.Supervisor.{fresh_of, mark_of}
use Rattle.history.specs.History.{Frame, Event, frame, mark, stands_at, framed, reached, refusal_of, Accepted}
use Rattle.causes.specs.declared.Standing.{Standing}
use Rattle.second.specs.declared.Second.{Second}
use Rattle.settings.specs.declared.Settings.{Settings}
use Rattle.supervisor.specs.declared.Supervisor.{Supervisor}

-- a question about a frame and what stands after it
abbrev pub Question : Type 0
Question = Standing → Frame → Bool

-- a number of a frame and what stands after it
abbrev pub Amount : Type 0
Amount = Standing → Frame → ℕ

-- its total over the frames that follow a supervisor
unfoldable pub total : Amount → Supervisor → List Frame → ℕ
total a s [] = 0
total a s (f ∷ fs) = a (stands_at s f) f + total a (framed s f) fs

-- in how many of the frames the answer is yes
abbrev pub tally : Question → Supervisor → List Frame → ℕ
tally q s fs = total (λ d f. flag (q d f)) s fs

-- whether it is in some frame
unfoldable pub some : Question → Supervisor → List Frame → Bool
some q s [] = false
some q s (f ∷ fs) = q (stands_at s f) f || some q (framed s f) fs

-- the questions of document 01, "Seconds and the ledger"
abbrev pub under : ℕ → Question
under k d f = eqb (head_of d) k

-- "A count above 0 is one near-end errored block"; "Blocks are not counted during SSF"
abbrev pub section_near : Question
section_near d f = leb 1 f.sm && not (ssf_of d.line)

-- "BEI 1 to 8 is one far-end errored block"
abbrev pub section_far : Question
section_far d f = far_block (overhead_of f.overhead).section.bei && not (ssf_of d.line)

-- "the sum of BEI violations beside errored blocks .. stopped as the far block count is" (document 02, K7): the number of a frame whose far-end block is counted
abbrev pub section_violations : Amount
section_violations d f = cond (section_far d f) (overhead_of f.overhead).section.bei 0

abbrev pub section_near_ds : Question
section_near_ds d f = ssf_of d.line || d.section.tim

abbrev pub section_far_ds : Question
section_far_ds d f = d.section.bdi

abbrev pub section_iae : Question
section_iae d f = d.section.iae

abbrev pub section_biae : Question
section_biae d f = d.section.biae

-- "in the path also not during dAIS, dOCI, dLCK"
abbrev pub path_near : Question
path_near d f = leb 1 f.pm && not (path_down (path_ssf d) d.path)

abbrev pub path_far : Question
path_far d f = far_block (overhead_of f.overhead).path.bei && not (path_down (path_ssf d) d.path)

abbrev pub path_violations : Amount
path_violations d f = cond (path_far d f) (overhead_of f.overhead).path.bei 0

abbrev pub path_near_ds : Question
path_near_ds d f = path_down (path_ssf d) d.path || d.path.tim

abbrev pub path_far_ds : Question
path_far_ds d f = d.path.bdi

abbrev pub sum_of : List ℕ → ℕ
sum_of [] = 0
sum_of (x ∷ xs) = x + sum_of xs

-- What a closed second says of its frames fs, which follow the supervisor s as the second began: every figure by the frames alone.
pub record Says (s : Supervisor) (fs : List Frame) (c : Second) : Type 0 where
  pub frames : c.frames.0 ≡ length fs
  pub ten : length c.heads ≡ 10
  pub heads : (k : ℕ) → k < 10 → get_or c.heads k 0 ≡ tally (under k) s fs
  pub sum : sum_of c.heads ≡ length fs
  pub near : c.path.near.0 ≡ tally path_near s fs
  pub far : c.path.far.0 ≡ tally path_far s fs
  pub near_most : c.path.near.0 ≤ tally (under 0) s fs + tally (under 9) s fs
  pub far_most : c.path.far.0 ≤ tally (under 0) s fs + tally (under 9) s fs
  pub violations : c.path.sum.0 ≡ total path_violations s fs
  pub bounded : Bounded c.path.far.0 c.path.sum.0
  pub neards : c.path.neards ≡ some path_near_ds s fs
  pub fards : c.path.fards ≡ some path_far_ds s fs
  pub section_near_is : c.section.near.0 ≡ cond (some section_iae s fs) 0 (tally section_near s fs)
  pub section_far_is : c.section.far.0 ≡ cond (some section_iae s fs || some section_biae s fs) 0 (tally section_far s fs)
  pub section_violations_is : c.section.sum.0 ≡ cond (some section_iae s fs || some section_biae s fs) 0 (total section_violations s fs)
  pub section_bounded : Bounded c.section.far.0 c.section.sum.0
  pub section_neards : c.section.neards ≡ cond (some section_iae s fs) false (some section_near_ds s fs)
  pub section_fards : c.section.fards ≡ cond (some section_iae s fs || some section_biae s fs) false (some section_far_ds s fs)

-- a second begins after this history: at the start, or after a mark
pub data Begins : List Event → Type 0 where
  at_start : Begins []
  after_mark_is : (h : List Event) → Begins (h ++ (mark ∷ []))

-- every history is one after which a second begins, and the frames since
pub record Since (h : List Event) : Type 0 where
  pub before : List Event
  pub begins : Begins before
  pub frames : List Frame
  pub is : h ≡ before ++ map frame frames

-- the figures of a second as a mark closes it, by its number and its frames (what is reported of it: crate reports)
abbrev pub line_figures : ℕ → Supervisor → List Frame → List ℕ
line_figures n s fs =
    let iae : Bool = some section_iae s fs in
    let biae : Bool = some section_iae s fs || some section_biae s fs in
    n ∷ length fs
    ∷ tally (under 0) s fs ∷ tally (under 1) s fs ∷ tally (under 2) s fs ∷ tally (under 3) s fs ∷ tally (under 4) s fs
    ∷ tally (under 5) s fs ∷ tally (under 6) s fs ∷ tally (under 7) s fs ∷ tally (under 8) s fs ∷ tally (under 9) s fs
    ∷ cond iae 0 (tally section_near s fs) ∷ cond biae 0 (tally section_far s fs)
    ∷ flag (cond iae false (some section_near_ds s fs)) ∷ flag (cond biae false (some section_far_ds s fs)) ∷ cond biae 0 (total section_violations s fs)
    ∷ tally path_near s fs ∷ tally path_far s fs ∷ flag (some path_near_ds s fs) ∷ flag (some path_far_ds s fs)
    ∷ total path_violations s fs ∷ []

-- the marks of a history
abbrev pub marks : List Event → ℕ
marks [] = 0
marks (frame f ∷ h) = marks h
marks (mark ∷ h) = 1 + marks h

-- Demand 3: a mark after the history h closes a second that says of the frames since the last mark what they are, and its twenty-two figures
-- are these
pub record Demand3 (p : Settings) (h : List Event) : Type 0 where
  pub since : Since h
  pub says : Says (reached p since.before) since.frames (closed_of (reached p h).second)
  pub figures : refusal_of (reached p h) mark ≡ 0
      → (mark_of (reached p h)).figures ≡ line_figures (marks h + 1) (reached p since.before) since.frames

-- of every accepted history
abbrev pub EveryDemand3 : Type 0
EveryDemand3 = (p : Settings) (h : List Event) → Accepted (fresh_of p) h → Demand3 p h
