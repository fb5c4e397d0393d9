-- The six tandem levels beside a supervisor, TCM1 to TCM6: what holds of a level is said once, over its number (document 02, K1). Assumes nothing.
use Rattle.std.specs.Prelude.{ℕ, zero, suc, ◌-◌, Bool, true, false, cond, not, ◌&&◌, List, [], ◌∷◌, ◌++◌, leb, length, get_or, take, drop, set, replicate}
use Rattle.answer.specs.Bits.{flag}
use Rattle.answer.specs.Each.{each_from}
use Rattle.answer.specs.Over.{over}
use Rattle.overhead.specs.declared.Field.{Field}
use Rattle.overhead.specs.Overhead.{level_field}
use Rattle.alignment.specs.declared.Multi.{Multi}
use Rattle.settings.specs.declared.Options.{Options}
use Rattle.second.specs.declared.Blocks.{Blocks}
use Rattle.level.specs.Level.{LevelFrame, level_frame, level_count, level_closed, level_marked, fresh_level, fresh_level_second}
use Rattle.supervisor.specs.Supervisor.{blank_options}
use Rattle.tandem.specs.declared.Level.{Level}
use Rattle.tandem.specs.declared.Listed.{Listed}

-- a level as it is provisioned, no frame met; and one that is not, which holds blanks
abbrev pub given_level : Options → Level
given_level p = record { given = true; options = p; state = fresh_level; second = fresh_level_second }

abbrev pub blank_level : Level
blank_level = record { given = false; options = blank_options; state = fresh_level; second = fresh_level_second }

-- A level after a frame, by SSF, the multiframe, its field and its violation count. "A level is monitored only if provisioned": another stays.
unfoldable pub stepped_level : Level → Bool → Multi → Field → ℕ → Level
stepped_level l ssf m f violations =
    let a : LevelFrame = level_frame l.state l.options ssf m f in
    cond l.given
    (record { given = true; options = l.options; state = a.state; second = level_count l.second a.stands f.bei violations })
    l

-- a level after a mark: dDEG is decided by its second, and the next one is open
unfoldable pub marked_level : Level → Level
marked_level l =
    cond l.given
    (record { given = true; options = l.options; state = level_marked l.state l.options l.second; second = fresh_level_second })
    l

-- "the four figures of every provisioned level": near-end and far-end blocks, near and far DS, after the level's own discard; and "The sum comes last in each
-- layer's group of S fields" (document 02, K7), so they are five; else zeros
unfoldable pub five_of : Level → List ℕ
five_of l =
    let b : Blocks = level_closed l.second in
    cond l.given (b.near.0 ∷ b.far.0 ∷ flag b.neards ∷ flag b.fards ∷ b.sum.0 ∷ []) (replicate 5 0)

-- "Frames with six more counts at the end, levels 1 to 6": level n has the n-th
abbrev pub count_at : List ℕ → ℕ → ℕ
count_at counts n = get_or counts (n - 1) 0

-- level n after a frame: its own three bytes, its own count, and the path's SSF
abbrev pub frame_rule : Bool → Multi → List ℕ → List ℕ → ℕ → Level → Level
frame_rule ssf m overhead counts n l = stepped_level l ssf m (level_field overhead n) (count_at counts n)

abbrev pub mark_rule : ℕ → Level → Level
mark_rule n l = marked_level l

-- the six levels after a frame and after a mark, the first having number 1
abbrev pub framed_levels : List Level → Bool → Multi → List ℕ → List ℕ → List Level
framed_levels ls ssf m overhead counts = each_from (frame_rule ssf m overhead counts) 1 ls

abbrev pub marked_levels : List Level → List Level
marked_levels ls = each_from mark_rule 1 ls

-- "lowest level first"
unfoldable pub level_figures : List Level → List ℕ
level_figures [] = []
level_figures (l ∷ ls) = five_of l ++ level_figures ls

-- "Each S line gains the four figures of every provisioned level, lowest level first" (K1), with the sum five (K7): of figures, five to a level, those of the
-- provisioned ones
unfoldable pub given_groups : List Level → List ℕ → List ℕ
given_groups [] figures = []
given_groups (l ∷ ls) figures = cond l.given (take 5 figures) [] ++ given_groups ls (drop 5 figures)

-- the figures of an S line, of the 52 of a mark: the twenty-two of line, section and path, then those groups
abbrev pub listed_of : List Level → List ℕ → List ℕ
listed_of ls figures = take 22 figures ++ given_groups ls (drop 22 figures)

-- figures in the room of 52, zeros behind them, and how many they are
abbrev pub listed_in : List ℕ → Listed
listed_in v = record { figures = over (replicate 52 0) 0 v; n = length v }

-- "level not 1 to 6"
abbrev pub is_level : ℕ → Bool
is_level n = leb 1 n && leb n 6

-- level n; there is no other than 1 to 6, and it reads as blank
abbrev pub level_at : List Level → ℕ → Level
level_at ls n = cond (leb 1 n) (cond (leb n 6) (get_or ls (n - 1) blank_level) blank_level) blank_level

-- "level not 1 to 6 or given twice": otherwise it is free
abbrev pub free_at : List Level → ℕ → Bool
free_at ls n = is_level n && not (level_at ls n).given

-- a level in its place
abbrev pub placed_at : List Level → ℕ → Level → List Level
placed_at ls n l = cond (leb 1 n) (cond (leb n 6) (set ls (n - 1) l) ls) ls

-- each of the first n counts is at most 8, provisioned or not
unfoldable pub low_to : ℕ → List ℕ → Bool
low_to zero counts = true
low_to (suc n) counts = low_to n counts && leb (get_or counts n 0) 8
