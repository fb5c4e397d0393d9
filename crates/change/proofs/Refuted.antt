-- Answers and contents that a tempting reading would give, shut out by the contracts at one input. Assumes nothing.
use Rattle.std.proofs.Common.{◌≡◌, ℕ, List, [], ◌∷◌, true, false, ◌&&◌, Fits, w64, length, replicate, ap, sym, ◌∙◌, arith}
use Rattle.std.proofs.Math.ListN.{get_or}
use contract.Lifetimes.{Lfts}
use borrow.Fn.Kinds.{Dens, ended_of, res_t}
use denote.Triple.Clauses.{AtExit}
use Rattle.answer.specs.Over.{over}
use Rattle.names.specs.Names.{same_in, same_trace}
use Rattle.causes.specs.Causes.{ssf_of, tim_acts, head_of, report_of, no_report}
use Rattle.tandem.specs.declared.Level.{Level}
use Rattle.tandem.specs.Tandem.{nothing}
use Rattle.listing.specs.Text.{fitted, decimal_in, spaced, fields_of}
use Rattle.conditions.specs.Conditions.{conditions, change_of, changes_of, condition_changes, level_words, under, level_changes}
use Rattle.change.specs.declared.Seen.{Seen}
use Rattle.change.specs.declared.Shown.{Shown}
use Rattle.change.specs.Change.{
  level_seen,
  traces_of,
  shown_of,
  head_change,
  printable_of,
  readable_of,
  told_of,
  trace_change,
  levels_to,
  unseen,
  standing_changes,
  trace_changes,
  beginning_of,
  frame_line,
  change_line,
}
use Rattle.change.proofs.shown_of.Kinds as shown_kinds
use Rattle.change.proofs.shown_of.Reads as shown_reads
use Rattle.change.proofs.change_line.Kinds as change_kinds
use Rattle.change.proofs.change_line.Reads as change_reads
use Rattle.change.proofs.change_line_at.Kinds as change_at_kinds
use Rattle.change.proofs.change_line_at.Reads as change_at_reads

-- a trace that is not known yet, gathered or not, is not shown as accepted
pub gathered_shown : (κs : Lfts 1) (a : Dens κs shown_kinds.ps) (x : Shown) (s : AtExit (ended_of 1 shown_kinds.ps shown_kinds.r) κs)
    → a.0.now.base.layers.section.layer.known ≡ false → x.section.known ≡ true → shown_reads.Post κs a x s → ⊥
unfolding shown_of
gathered_shown κs a x s k t p =
    let e : x.section.known ≡ a.0.now.base.layers.section.layer.known = ap (λ (y : Shown). y.section.known) p in
    let h : ◌≡◌ {A = ℕ} 0 1 = cc in
    omega arith

-- a level that is not provisioned has no accepted trace
pub blank_shown : (κs : Lfts 1) (a : Dens κs shown_kinds.ps) (l : Level) (ls : List Level) (x : Shown) (s : AtExit (ended_of 1 shown_kinds.ps shown_kinds.r) κs)
    → a.0.now.levels ≡ l ∷ ls → l.given ≡ false → (get_or x.traces 0 unseen).known ≡ true → shown_reads.Post κs a x s → ⊥
unfolding shown_of level_seen
blank_shown κs a l ls x s g k t p =
    let e : x.traces ≡ traces_of (l ∷ ls) = rw g at (ap (λ (y : Shown). y.traces) p) in
    let f : (get_or x.traces 0 unseen).known ≡ (l.given && l.state.layer.known) = ap (λ (y : List Seen). (get_or y 0 unseen).known) e in
    let n : (l.given && l.state.layer.known) ≡ false = rw k in
    let h : ◌≡◌ {A = ℕ} 0 1 = cc in
    omega arith

-- nothing stands, and no trace is known
abbrev quiet : Shown
quiet = record {
  report = no_report;
  levels = replicate 6 nothing;
  section = record { known = false; trace = replicate 64 0 };
  path = record { known = false; trace = replicate 64 0 };
  traces = replicate 6 unseen;
}

-- the section's trace is accepted: the byte 127, then A 63 times
abbrev told : Shown
told = record {
  report = no_report;
  levels = replicate 6 nothing;
  section = record { known = true; trace = 127 ∷ replicate 63 65 };
  path = record { known = false; trace = replicate 64 0 };
  traces = replicate 6 unseen;
}

-- byte 127 is printed as a dot: it stands after `F 1 3 12 SM.trace="`
pub delete_printed : (h : Fits w64 2560) (κs : Lfts 4) (a : Dens κs (change_kinds.ps 2560 h)) (r : (res_t (change_kinds.r 2560 h) κs).Denot) (s : AtExit (ended_of 4 (change_kinds.ps 2560 h) (change_kinds.r 2560 h)) κs)
    → a.0 ≡ 1 → a.1.0 ≡ 3 → a.1.1.0 ≡ 12 → a.1.1.1.0.now ≡ quiet → a.1.1.1.1.0.now ≡ told
    → a.1.1.1.1.1.0.now.items ≡ [] → get_or s.1.1.1.1.1.0.now.items 19 0 ≡ 127
    → change_reads.Post 2560 h κs a r s → ⊥
unfolding fitted change_line frame_line beginning_of standing_changes trace_changes levels_to level_changes level_words under condition_changes conditions trace_change told_of readable_of printable_of head_change changes_of change_of fields_of spaced decimal_in report_of no_report head_of tim_acts ssf_of same_trace same_in
delete_printed h κs a r s second frame total before after d o p =
    let e : get_or s.1.1.1.1.1.0.now.items 19 0 ≡ 46 = ap (λ (l : List ℕ). get_or l 19 0) (rw (second, frame, total, before, after, d) at (change_reads.post-apart 2560 h κs a r s p).put) in
    let x : ◌≡◌ {A = ℕ} 127 46 = sym o ∙ e in
    omega arith

-- a frame at which nothing changed has no line, not even `F 1 3 12` and a line end
pub empty_line : (h : Fits w64 2560) (κs : Lfts 4) (a : Dens κs (change_kinds.ps 2560 h)) (r : (res_t (change_kinds.r 2560 h) κs).Denot) (s : AtExit (ended_of 4 (change_kinds.ps 2560 h) (change_kinds.r 2560 h)) κs)
    → a.0 ≡ 1 → a.1.0 ≡ 3 → a.1.1.0 ≡ 12 → a.1.1.1.0.now ≡ told → a.1.1.1.1.0.now ≡ told
    → a.1.1.1.1.1.0.now.items ≡ [] → length s.1.1.1.1.1.0.now.items ≡ 9 → change_reads.Post 2560 h κs a r s → ⊥
unfolding fitted change_line standing_changes trace_changes levels_to level_changes level_words under condition_changes conditions trace_change head_change changes_of change_of report_of no_report head_of tim_acts ssf_of same_trace same_in
empty_line h κs a r s second frame total before after d o p =
    let e : length s.1.1.1.1.1.0.now.items ≡ 0 = ap (λ (l : List ℕ). length l) (rw (second, frame, total, before, after, d) at (change_reads.post-apart 2560 h κs a r s p).put) in
    omega arith

-- byte 127 is printed as a dot: it stands after `F 1 3 12 SM.trace="`
pub delete_printed_at : (κs : Lfts 1) (a : Dens κs change_at_kinds.ps) (r : ℕ) (s : AtExit (ended_of 1 change_at_kinds.ps change_at_kinds.r) κs)
    → a.0 ≡ 1 → a.1.0 ≡ 3 → a.1.1.0 ≡ 12 → a.1.1.1.0 ≡ quiet → a.1.1.1.1.0 ≡ told
    → a.1.1.1.1.1.0.now ≡ replicate 2560 0 → a.1.1.1.1.1.1.0 ≡ 0 → get_or s.1.1.1.1.1.0.now 19 0 ≡ 127
    → change_at_reads.Post κs a r s → ⊥
unfolding fitted over change_line frame_line beginning_of standing_changes trace_changes levels_to level_changes level_words under condition_changes conditions trace_change told_of readable_of printable_of head_change changes_of change_of fields_of spaced decimal_in report_of no_report head_of tim_acts ssf_of same_trace same_in
delete_printed_at κs a r s second frame total before after d at o p =
    let e : get_or s.1.1.1.1.1.0.now 19 0 ≡ 46 = ap (λ (l : List ℕ). get_or l 19 0) (rw (second, frame, total, before, after, d, at) at p.2) in
    let h : ◌≡◌ {A = ℕ} 127 46 = sym o ∙ e in
    omega arith

-- a frame at which nothing changed has no line, not even `F 1 3 12` and a line end
pub empty_line_at : (κs : Lfts 1) (a : Dens κs change_at_kinds.ps) (s : AtExit (ended_of 1 change_at_kinds.ps change_at_kinds.r) κs)
    → a.0 ≡ 1 → a.1.0 ≡ 3 → a.1.1.0 ≡ 12 → a.1.1.1.0 ≡ told → a.1.1.1.1.0 ≡ told
    → a.1.1.1.1.1.0.now ≡ replicate 2560 0 → a.1.1.1.1.1.1.0 ≡ 0 → change_at_reads.Post κs a 9 s → ⊥
unfolding fitted change_line standing_changes trace_changes levels_to level_changes level_words under condition_changes conditions trace_change head_change changes_of change_of report_of no_report head_of tim_acts ssf_of same_trace same_in
empty_line_at κs a s second frame total before after d at p =
    let h : ◌≡◌ {A = ℕ} 9 0 = rw (second, frame, total, before, after, d, at) at p.0 in
    omega arith
