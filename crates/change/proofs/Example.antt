-- Lines, computed. Assumes nothing.
use mathlib.Core.Path.{◌≡◌, refl}
use mathlib.Core.Bool.{true, false}
use mathlib.Core.List.{[], ◌∷◌}
use lib.ListN.{replicate}
use Rattle.names.specs.Names.{same_in, same_trace}
use Rattle.signal.specs.declared.Signal.TheVariants.{Oci}
use Rattle.causes.specs.Causes.{ssf_of, tim_acts, head_of, report_of, nothing_stands, no_report}
use Rattle.tandem.specs.Tandem.{nothing}
use Rattle.level.specs.declared.Status.TheVariants as status
use Rattle.listing.specs.Text.{decimal_in, spaced, fields_of}
use Rattle.listing.specs.Bytes.{bytes}
use Rattle.conditions.specs.Conditions.{conditions, change_of, changes_of, condition_changes, level_words, under, level_changes}
use Rattle.change.specs.declared.Shown.{Shown}
use Rattle.change.specs.Change.{
  head_change,
  printable_of,
  readable_of,
  told_of,
  trace_change,
  levels_to,
  unseen,
  standing_changes,
  trace_changes,
  beginning_of,
  frame_line,
  change_line,
}

-- nothing stands, and no trace is known
abbrev quiet : Shown
quiet = record {
  report = no_report;
  levels = replicate 6 nothing;
  section = record { known = false; trace = replicate 64 0 };
  path = record { known = false; trace = replicate 64 0 };
  traces = replicate 6 unseen;
}

-- in frame and in multiframe, the path an open connection, and the section's trace accepted: A, a zero, then B 62 times
abbrev open_path : Shown
open_path = record {
  report =
      report_of (record {
        line = record { inframe = true; inmulti = true; tsf = false; ais = false; lof = false; lom = false };
        section = nothing_stands.section;
        path = record { signal = Oci; tim = false; disabled = false; bdi = false; deg = false };
      }) 0 0;
  levels = replicate 6 nothing;
  section = record { known = true; trace = 65 ∷ 0 ∷ replicate 62 66 };
  path = record { known = false; trace = replicate 64 0 };
  traces = replicate 6 unseen;
}

raised : change_line 1 3 12 quiet open_path
    ≡ bytes "F 1 3 12 +IF +IM +PM.dOCI +PM.aTSF +PM.aBDI +PM.cOCI head=7 SM.trace=\"A.BBBBBBBBBBBBBBBBBBBBBBBBBBBBBBBBBBBBBBBBBBBBBBBBBBBBBBBBBBBBBB\"\n"
unfolding change_line frame_line beginning_of standing_changes trace_changes levels_to level_changes level_words under condition_changes conditions trace_change told_of readable_of printable_of head_change changes_of change_of fields_of spaced decimal_in report_of no_report head_of tim_acts ssf_of same_trace same_in
raised = refl

cleared : change_line 1 4 13 open_path quiet ≡ bytes "F 1 4 13 -IF -IM -PM.dOCI -PM.aTSF -PM.aBDI -PM.cOCI head=0 -SM.trace\n"
unfolding change_line frame_line beginning_of standing_changes trace_changes levels_to level_changes level_words under condition_changes conditions trace_change told_of readable_of printable_of head_change changes_of change_of fields_of spaced decimal_in report_of no_report head_of tim_acts ssf_of same_trace same_in
cleared = refl

as_it_was : change_line 1 5 14 open_path open_path ≡ []
unfolding change_line frame_line beginning_of standing_changes trace_changes levels_to level_changes level_words under condition_changes conditions trace_change told_of readable_of printable_of head_change changes_of change_of fields_of spaced decimal_in report_of no_report head_of tim_acts ssf_of same_trace same_in
as_it_was = refl

-- level 3 has lost its tandem connection and accepted a trace of 64 times C
abbrev lost : Shown
lost = record {
  report = no_report;
  levels =
      nothing
      ∷ nothing
      ∷ record { ssf = false; status = status.Ltc; tim = false; disabled = false; bdi = false; iae = false; biae = false; deg = false }
      ∷ replicate 3 nothing;
  section = record { known = false; trace = replicate 64 0 };
  path = record { known = false; trace = replicate 64 0 };
  traces = unseen ∷ unseen ∷ record { known = true; trace = replicate 64 67 } ∷ replicate 3 unseen;
}

-- the levels' words stand before the head, their traces last
level_raised : change_line 2 7 90 quiet lost
    ≡ bytes "F 2 7 90 +TCM3.dLTC +TCM3.aTSF +TCM3.cLTC TCM3.trace=\"CCCCCCCCCCCCCCCCCCCCCCCCCCCCCCCCCCCCCCCCCCCCCCCCCCCCCCCCCCCCCCCC\"\n"
unfolding change_line frame_line beginning_of standing_changes trace_changes levels_to level_changes level_words under condition_changes conditions trace_change told_of readable_of printable_of head_change changes_of change_of fields_of spaced decimal_in report_of no_report head_of tim_acts ssf_of same_trace same_in
level_raised = refl

both : change_line 2 8 91 lost open_path
    ≡ bytes "F 2 8 91 +IF +IM +PM.dOCI +PM.aTSF +PM.aBDI +PM.cOCI -TCM3.dLTC -TCM3.aTSF -TCM3.cLTC head=7 SM.trace=\"A.BBBBBBBBBBBBBBBBBBBBBBBBBBBBBBBBBBBBBBBBBBBBBBBBBBBBBBBBBBBBBB\" -TCM3.trace\n"
unfolding change_line frame_line beginning_of standing_changes trace_changes levels_to level_changes level_words under condition_changes conditions trace_change told_of readable_of printable_of head_change changes_of change_of fields_of spaced decimal_in report_of no_report head_of tim_acts ssf_of same_trace same_in
both = refl
