-- With a mark nothing shown changes, and so it has no line of its own. Assumes nothing.
use Prim.Native.Nat.{ℕ, suc}
use mathlib.Core.Path.{◌≡◌, refl, ◌∙◌, ap}
use mathlib.Core.Bool.{Bool, true, false}
use mathlib.Core.List.{List, [], ◌∷◌}
use lib.Dec.{ltb}
use borrow.Author.Tests.{eq-eqb}
use Rattle.answer.specs.Each.{each_from}
use Rattle.answer.proofs.Cond.{by_cond}
use Rattle.causes.specs.Causes.{report_of}
use Rattle.causes.specs.declared.Report.{Report}
use Rattle.level.specs.Level.{level_marked}
use Rattle.level.specs.declared.LevelStands.{LevelStands}
use Rattle.supervisor.specs.Supervisor.{next_second, mark_of}
use Rattle.tandem.specs.Levels.{marked_level, mark_rule}
use Rattle.tandem.specs.Tandem.{marked_of}
use Rattle.tandem.specs.declared.Level.{Level}
use Rattle.tandem.specs.declared.Tandem.{Tandem}
use Rattle.conditions.specs.Conditions.{conditions, condition_changes}
use Rattle.change.specs.Change.{seen_rule, level_seen, shown_of, head_change, all_changes, change_line}
use Rattle.change.specs.declared.Shown.{Shown}
use Rattle.change.proofs.Levels.{same_untold, trace_untold, levels_untold}
use Rattle.watch.specs.Watch.{marks}
use Rattle.reports.specs.Reports.{late_by}
use Rattle.stream.proofs.Lates.{late_tandem}
use Rattle.lines.specs.Line.{shown_in, line_for, MarkUntold}

-- the accepted traces are as they were
seen_marked : (l : Level) → level_seen (marked_level l) ≡ level_seen l
unfolding level_seen marked_level level_marked
seen_marked l = by_cond (λ (x : Level). level_seen x ≡ level_seen l) l.given (λ e. rw e) (λ _. refl)

traces_marked : (n : ℕ) (ls : List Level) → each_from seen_rule n (each_from mark_rule n ls) ≡ each_from seen_rule n ls
traces_marked n [] = refl
traces_marked n (l ∷ ls) = rw (seen_marked l, traces_marked (suc n) ls)

shown_marked : (t : Tandem) (r : Report) (levels : List LevelStands) → shown_of (marked_of t).tandem r levels ≡ shown_of t r levels
unfolding shown_of marked_of mark_of next_second
shown_marked t r levels = by (ltb t.base.seconds 4294967295) refl
  where
    by : (b : Bool) → ltb t.base.seconds 4294967295 ≡ b → shown_of (marked_of t).tandem r levels ≡ shown_of t r levels
    by true e = rw (e, traces_marked 1 t.levels)
    by false e = rw e

all_untold : (x : Shown) → all_changes x x ≡ []
unfolding condition_changes head_change
all_untold x =
    levels_untold x x refl refl
    ∙ rw (same_untold (conditions x.report), eq-eqb x.report.head x.report.head refl, trace_untold _ x.section, trace_untold _ x.path)

line_untold : (second frame total : ℕ) (x : Shown) → change_line second frame total x x ≡ []
unfolding change_line
line_untold second frame total x = rw (all_untold x)

pub mark_untold : MarkUntold
unfolding line_for late_by
mark_untold total st =
    let same : shown_of (late_by st.sup marks).tandem (report_of st.standing 0 0) st.levels ≡ shown_in st =
    ap (λ (t : Tandem). shown_of t (report_of st.standing 0 0) st.levels) (late_tandem st.sup) ∙ shown_marked st.sup.tandem (report_of st.standing 0 0) st.levels in
    rw same (line_untold _ _ total (shown_in st))
