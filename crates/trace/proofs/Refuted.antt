-- Wrong answers that the contracts shut out, each at one input. Assumes nothing.
use Prim.Native.Nat.{ℕ}
use mathlib.Core.Path.{◌≡◌, ap, ◌∙◌, sym}
use mathlib.Core.Bool.{true, false}
use mathlib.Core.List.{List, [], ◌∷◌, ◌++◌}
use native.Mathlib.Omega.{arith}
use lib.ListN.{get_or, replicate}
use contract.Lifetimes.{Lfts}
use borrow.Fn.Kinds.{Dens, ended_of}
use denote.Triple.Clauses.{AtExit}
use Rattle.settings.specs.Settings.{settings_refusal, thr_good, ceiling_of, degm_good}
use Rattle.supervisor.specs.Supervisor.{provision_of, mark_of}
use Rattle.supervisor.specs.declared.Supervisor.{Supervisor}
use Rattle.tandem.specs.Tandem.{record_refusal, given_by, frame_refusal}
use Rattle.tandem.specs.Tandem as tandem
use Rattle.late.specs.Late.{late_marked}
use Rattle.record.specs.Record.{record_of, of_kind, records_from}
use Rattle.trace.specs.declared.State.{State}
use Rattle.trace.specs.declared.Run as code
use Rattle.trace.specs.declared.Stop.{Stop}
use Rattle.trace.specs.declared.Stop.TheVariants as stop
use Rattle.trace.specs.Scan.{Run, ran, start_of, answered_of, stepped_of, framed_of, marked_of, provisioned_of, given_of, taken_of, run_over, run_of}
use Rattle.trace.proofs.start.Kinds as start_kinds
use Rattle.trace.proofs.start.Reads as start_reads
use Rattle.trace.proofs.scan.Kinds as scan_kinds
use Rattle.trace.proofs.scan.Reads as scan_reads

-- a scan starts with no second reported
pub starts_with_figures : (κs : Lfts 0) (s : AtExit (ended_of 0 start_kinds.ps start_kinds.r) κs) (y : State) → start_reads.Post κs tt y s → y.last ≡ replicate 52 1 → ⊥
starts_with_figures κs s y e f =
    let h : ◌≡◌ {A = ℕ} 1 0 = ap (λ (l : List ℕ). get_or l 0 0) (sym f ∙ ap (λ (x : State). x.last) e) in
    omega arith

-- a mark, and a provisioning whose layers differ, each alone in a buffer
abbrev pub one_mark : List ℕ
one_mark = 2 ∷ 0 ∷ 2 ∷ 0 ∷ []

abbrev pub one_provisioning : List ℕ
one_provisioning = (81 ∷ 0 ∷ 3 ∷ 0 ∷ 1 ∷ 1 ∷ 0 ∷ 0 ∷ 0 ∷ 2 ∷ 2 ∷ 0 ∷ 0 ∷ 0 ∷ 3 ∷ []) ++ replicate 68 0

abbrev offset_in : Stop → ℕ
offset_in stop.More = 0
offset_in stop.Reported = 0
offset_in stop.Told = 0
offset_in (stop.Refused number offset) = offset

abbrev number_in : Stop → ℕ
number_in stop.More = 0
number_in stop.Reported = 0
number_in stop.Told = 0
number_in (stop.Refused number offset) = number

abbrev told_in : Stop → ℕ
told_in stop.More = 0
told_in stop.Reported = 0
told_in stop.Told = 1
told_in (stop.Refused number offset) = 0

abbrev reported_in : Stop → ℕ
reported_in stop.More = 0
reported_in stop.Reported = 1
reported_in stop.Told = 0
reported_in (stop.Refused number offset) = 0

-- scanned from the start, with no record told
module _ (κs : Lfts 2) (a : Dens κs scan_kinds.ps) (s : AtExit (ended_of 2 scan_kinds.ps scan_kinds.r) κs) (y : code.Run) (e : scan_reads.Post κs a y s)
    (quiet : a.0 ≡ false) (st : a.1.0.now ≡ start_of) (from : a.1.1.1.0 ≡ 0) where
  is : (bytes : List ℕ) → a.1.1.0.now ≡ bytes → ran y s.1.0.now ≡ run_of false bytes 0 0 start_of
  is bytes b = e ∙ rw (quiet, st, from, b)

  -- the offset is that of the record refused, not of the one after it
  pub offset_late : a.1.1.0.now ≡ one_mark → y.stop ≡ stop.Refused 16 4 → ⊥
  unfolding run_over records_from taken_of record_of of_kind marked_of
  offset_late b f =
      let h : ◌≡◌ {A = ℕ} 4 0 = ap offset_in (sym f ∙ ap (λ (r : Run). r.stop) (is one_mark b)) in
      omega arith

  -- nothing is told where it is not asked
  pub told_unasked : a.1.1.0.now ≡ one_provisioning → y.stop ≡ stop.Told → ⊥
  unfolding run_over records_from taken_of record_of of_kind provisioned_of answered_of provision_of settings_refusal thr_good ceiling_of degm_good
  told_unasked b f =
      let h : ◌≡◌ {A = ℕ} 1 0 = ap told_in (sym f ∙ ap (λ (r : Run). r.stop) (is one_provisioning b)) in
      omega arith

  -- the section is provisioned before the path
  pub layers_swapped : a.1.1.0.now ≡ one_provisioning → s.1.0.now.sup.tandem.base.settings.section.thr ≡ 2 → ⊥
  unfolding run_over records_from taken_of record_of of_kind provisioned_of answered_of provision_of settings_refusal thr_good ceiling_of degm_good
  layers_swapped b f =
      let h : ◌≡◌ {A = ℕ} 2 1 = sym f ∙ ap (λ (r : Run). r.state.sup.tandem.base.settings.section.thr) (is one_provisioning b) in
      omega arith

-- level 7 with DEGM 0; a frame of kind 1 with a section count of 9; and one of kind 5 with flags 4
abbrev pub level_seven : List ℕ
level_seven = (42 ∷ 0 ∷ 4 ∷ 0 ∷ 7 ∷ 1 ∷ []) ++ replicate 38 0

abbrev pub frame_high : List ℕ
frame_high = (69 ∷ 0 ∷ 1 ∷ 0 ∷ []) ++ (replicate 64 0 ++ (0 ∷ 9 ∷ 0 ∷ []))

abbrev pub level_frame_flags : List ℕ
level_frame_flags = (75 ∷ 0 ∷ 5 ∷ 0 ∷ []) ++ (replicate 64 0 ++ (4 ∷ replicate 8 0))

-- a provisioning is met, and frames of a kind are accepted
abbrev pub met : ℕ → State
met kind = record { begun = true; kind = kind; sup = start_of.sup; last = start_of.last; standing = start_of.standing; levels = start_of.levels }

-- scanned from there
module _ (kind : ℕ) (κs : Lfts 2) (a : Dens κs scan_kinds.ps) (s : AtExit (ended_of 2 scan_kinds.ps scan_kinds.r) κs) (y : code.Run) (e : scan_reads.Post κs a y s)
    (quiet : a.0 ≡ false) (from : a.1.1.1.0 ≡ 0) (st : a.1.0.now ≡ met kind) where
  on : (bytes : List ℕ) → a.1.1.0.now ≡ bytes → ran y s.1.0.now ≡ run_of false bytes 0 0 (met kind)
  on bytes b = e ∙ rw (quiet, st, from, b)

  -- in a trace 18 comes before 7
  pub level_after_ranges : a.1.1.0.now ≡ level_seven → y.stop ≡ stop.Refused 7 0 → ⊥
  unfolding run_over records_from taken_of record_of of_kind given_of answered_of record_refusal given_by
  level_after_ranges b f =
      let h : ◌≡◌ {A = ℕ} 7 18 = ap number_in (sym f ∙ ap (λ (r : Run). r.stop) (on level_seven b)) in
      omega arith

-- with frames of kind 5, one of kind 1 is refused, and 19 comes before 3; with frames of kind 1, one of kind 5 is; and a refused frame settles no kind
module _ (κs : Lfts 2) (a : Dens κs scan_kinds.ps) (s : AtExit (ended_of 2 scan_kinds.ps scan_kinds.r) κs) (y : code.Run) (e : scan_reads.Post κs a y s)
    (quiet : a.0 ≡ false) (from : a.1.1.1.0 ≡ 0) where
  pub count_before_kind : a.1.0.now ≡ met 5 → a.1.1.0.now ≡ frame_high → y.stop ≡ stop.Refused 3 0 → ⊥
  unfolding run_over records_from taken_of record_of of_kind framed_of
  count_before_kind st b f =
      let h : ◌≡◌ {A = ℕ} 3 19 = ap number_in (sym f ∙ ap (λ (r : Run). r.stop) (on 5 κs a s y e quiet from st frame_high b)) in
      omega arith

  pub five_after_one : a.1.0.now ≡ met 1 → a.1.1.0.now ≡ level_frame_flags → y.stop ≡ stop.Refused 2 0 → ⊥
  unfolding run_over records_from taken_of record_of of_kind framed_of
  five_after_one st b f =
      let h : ◌≡◌ {A = ℕ} 2 19 = ap number_in (sym f ∙ ap (λ (r : Run). r.stop) (on 1 κs a s y e quiet from st level_frame_flags b)) in
      omega arith

  pub refused_settles : a.1.0.now ≡ met 0 → a.1.1.0.now ≡ level_frame_flags → s.1.0.now.kind ≡ 5 → ⊥
  unfolding run_over records_from taken_of record_of of_kind framed_of stepped_of answered_of tandem.framed_of frame_refusal
  refused_settles st b f =
      let h : ◌≡◌ {A = ℕ} 5 0 = sym f ∙ ap (λ (r : Run). r.state.kind) (on 0 κs a s y e quiet from st level_frame_flags b) in
      omega arith

-- one second is closed, and pending with a frame
abbrev pub one_closed : State
one_closed = record {
  begun = true;
  kind = 0;
  sup = record {
    tandem = record { base = record { settings = base.settings; layers = base.layers; second = base.second; seconds = 1 }; flags = 0; levels = start_of.sup.tandem.levels };
    pending = 1 ∷ replicate 42 0;
  };
  last = start_of.last;
  standing = start_of.standing;
  levels = start_of.levels;
}
  where
    base : Supervisor
    base = start_of.sup.tandem.base

module _ (κs : Lfts 2) (a : Dens κs scan_kinds.ps) (s : AtExit (ended_of 2 scan_kinds.ps scan_kinds.r) κs) (y : code.Run) (e : scan_reads.Post κs a y s)
    (quiet : a.0 ≡ false) (from : a.1.1.1.0 ≡ 0) (b : a.1.1.0.now ≡ one_mark) where
  -- the first mark reports nothing
  pub first_reports : a.1.0.now ≡ met 0 → y.stop ≡ stop.Reported → ⊥
  unfolding run_over records_from taken_of record_of of_kind marked_of answered_of late_marked tandem.marked_of mark_of
  first_reports st f =
      let h : ◌≡◌ {A = ℕ} 1 0 = ap reported_in (sym f ∙ ap (λ (r : Run). r.stop) (on 0 κs a s y e quiet from st one_mark b)) in
      omega arith

  -- a mark reports the second closed before it, not the one that it closes
  pub own_reported : a.1.0.now ≡ one_closed → get_or s.1.0.now.last 0 0 ≡ 2 → ⊥
  unfolding run_over records_from taken_of record_of of_kind marked_of answered_of late_marked tandem.marked_of mark_of
  own_reported st f =
      let is : ran y s.1.0.now ≡ run_of false one_mark 0 0 one_closed = e ∙ rw (quiet, st, from, b) in
      let h : ◌≡◌ {A = ℕ} 2 1 = sym f ∙ ap (λ (r : Run). get_or r.state.last 0 0) is in
      omega arith
