-- The line of a frame at which anything changed: what was raised and what cleared, in G.798's names. Assumes nothing.
use Rattle.std.specs.Prelude.{ℕ, zero, suc, ◌-◌, ◌≡◌, false, cond, ◌&&◌, List, [], ◌∷◌, ◌++◌, length, get_or, replicate, eqb, leb}
use Rattle.answer.specs.Each.{each_from}
use Rattle.layer.specs.declared.Layer.{Layer}
use Rattle.names.specs.Names.{same_trace}
use Rattle.causes.specs.declared.Report.{Report}
use Rattle.level.specs.declared.LevelStands.{LevelStands}
use Rattle.tandem.specs.declared.Level.{Level}
use Rattle.tandem.specs.declared.Tandem.{Tandem}
use Rattle.tandem.specs.Tandem.{nothing}
use Rattle.listing.specs.Bytes.{bytes}
use Rattle.listing.specs.Text.{decimal_of, fields_of}
use Rattle.conditions.specs.Conditions.{change_of, condition_changes, level_prefix, level_changes}
use Rattle.change.specs.declared.Seen.{Seen}
use Rattle.change.specs.declared.Shown.{Shown}

-- a layer's accepted trace
abbrev pub seen_of : Layer → Seen
seen_of l = record { known = l.known; trace = l.accepted }

-- a level's: "A level is monitored only if provisioned" (document 02, K1), and another has none
unfoldable pub level_seen : Level → Seen
level_seen l = record { known = l.given && l.state.layer.known; trace = l.state.layer.accepted }

abbrev pub seen_rule : ℕ → Level → Seen
seen_rule n l = level_seen l

-- those of the six levels
abbrev pub traces_of : List Level → List Seen
traces_of ls = each_from seen_rule 1 ls

-- what stands after a frame: its report, what stands of the levels, and the accepted traces of the supervisor that is left
unfoldable pub shown_of : Tandem → Report → List LevelStands → Shown
shown_of t r levels = record {
  report = r;
  levels = levels;
  section = seen_of t.base.layers.section.layer;
  path = seen_of t.base.layers.path.layer;
  traces = traces_of t.levels;
}

-- the head, where it is another than before
unfoldable pub head_change : ℕ → ℕ → List ℕ
head_change before after = cond (eqb before after) [] (bytes " head=" ++ decimal_of after)

-- a byte as it is printed: 32 to 126 as it is, any other as a dot
unfoldable pub printable_of : ℕ → ℕ
printable_of b = cond (leb 32 b && leb b 126) b 46

unfoldable pub readable_of : List ℕ → List ℕ
readable_of [] = []
readable_of (b ∷ bs) = printable_of b ∷ readable_of bs

-- a trace under its name: ` NAME="..."`
unfoldable pub told_of : List ℕ → List ℕ → List ℕ
told_of name trace = bytes " " ++ (name ++ (bytes "=\"" ++ (readable_of trace ++ bytes "\"")))

-- a layer's accepted trace: told where one is known and before none was or another, `-` and its name where it is known no longer
unfoldable pub trace_change : List ℕ → Seen → Seen → List ℕ
trace_change name before after =
    cond after.known
    (cond (before.known && same_trace before.trace after.trace) [] (told_of name after.trace))
    (change_of name before.known false)

-- of levels 1 to n, lowest first
unfoldable pub levels_to : (ℕ → List ℕ) → ℕ → List ℕ
levels_to f zero = []
levels_to f (suc n) = levels_to f n ++ f (suc n)

-- the conditions of level n that changed, of what stood and stands of the six
abbrev pub words_of : List LevelStands → List LevelStands → ℕ → List ℕ
words_of before after n = level_changes n (get_or before (n - 1) nothing) (get_or after (n - 1) nothing)

-- the trace of level n, `TCM3.trace`, of those of the six
abbrev pub level_trace : ℕ → List ℕ
level_trace n = level_prefix n ++ bytes "trace"

abbrev pub unseen : Seen
unseen = record { known = false; trace = replicate 64 0 }

abbrev pub trace_of : List Seen → List Seen → ℕ → List ℕ
trace_of before after n = trace_change (level_trace n) (get_or before (n - 1) unseen) (get_or after (n - 1) unseen)

-- what changed of what stands: the conditions of line, section and path, those of the levels, the head
unfoldable pub standing_changes : Shown → Shown → List ℕ
standing_changes before after =
    condition_changes before.report after.report
    ++ (levels_to (words_of before.levels after.levels) 6
    ++ head_change before.report.head after.report.head)

-- what changed of the accepted traces: the section's, the path's, those of the levels
unfoldable pub trace_changes : Shown → Shown → List ℕ
trace_changes before after =
    trace_change (bytes "SM.trace") before.section after.section
    ++ (trace_change (bytes "PM.trace") before.path after.path
    ++ levels_to (trace_of before.traces after.traces) 6)

-- all that changed
abbrev pub all_changes : Shown → Shown → List ℕ
all_changes before after = standing_changes before after ++ trace_changes before after

-- what changed of line, section and path alone
abbrev pub base_changes : Shown → Shown → List ℕ
base_changes before after =
    (condition_changes before.report after.report
    ++ head_change before.report.head after.report.head)
    ++ (trace_change (bytes "SM.trace") before.section after.section
    ++ trace_change (bytes "PM.trace") before.path after.path)

-- Levels with which nothing changed are not told, and so the explanation of a trace that provisions none is that of its line, section and path.
abbrev pub LevelsUntold : Type 0
LevelsUntold = (before after : Shown) → before.levels ≡ after.levels → before.traces ≡ after.traces → all_changes before after ≡ base_changes before after

-- how a line begins: `F`, the second, the frame in it, the frame in the trace
unfoldable pub beginning_of : ℕ → ℕ → ℕ → List ℕ
beginning_of second frame total = bytes "F" ++ fields_of (second ∷ frame ∷ total ∷ [])

-- a line: its beginning, what changed, a line end
unfoldable pub frame_line : ℕ → ℕ → ℕ → List ℕ → List ℕ
frame_line second frame total changes = beginning_of second frame total ++ (changes ++ bytes "\n")

-- the line of a frame; nothing where nothing changed
unfoldable pub change_line : ℕ → ℕ → ℕ → Shown → Shown → List ℕ
change_line second frame total before after =
    cond (eqb (length (all_changes before after)) 0) [] (frame_line second frame total (all_changes before after))

-- the room that a line is given: no line is longer (the contract of `change_line` says so)
abbrev pub change_room : ℕ
change_room = 2560
