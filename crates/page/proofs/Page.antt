-- The page: after every accepted history every answer is the page's. Assumes nothing.
use mathlib.Core.Path.{◌≡◌, refl, ap, ap₂, sym, ◌∙◌, subst, subst⁻¹}
use mathlib.Core.Logic.{◌↔◌}
use mathlib.Core.Bool.{Bool, true, false, cond}
use mathlib.Core.List.{List, map, reverse, reverse-reverse}
use Prim.Native.Nat.{ℕ, suc, ◌+◌}
use native.Mathlib.Omega.{arith}
use borrow.Author.Tests.{eqb-true}
use lib.Dec.{leb, ltb, eqb}
use lib.ListN.{replicate}
use Rattle.answer.proofs.Cond.{cond_under}
use Rattle.filter.specs.Since.{On, Given, bits_since, on_by}
use Rattle.filter.proofs.Since.{filter_on}
use Rattle.alignment.specs.Framed.{Framed}
use Rattle.alignment.specs.Numbered.{Place, Numbered}
use Rattle.alignment.proofs.Framed.{framing_is}
use Rattle.alignment.proofs.Numbered.{multi_is}
use Rattle.layer.specs.Traced.{AcceptedTrace, trace_in}
use Rattle.causes.specs.Causes.{ssf_of, tim_acts, head_of, report_of, no_report}
use Rattle.causes.specs.declared.Report.{Report}
use Rattle.causes.specs.declared.Standing.{Standing}
use Rattle.second.specs.Second.{closed_of, figures_of}
use Rattle.settings.specs.Ranges.{SettingsIn}
use Rattle.settings.specs.declared.Settings.{Settings}
use Rattle.supervisor.specs.Supervisor.{Stepped, Marked, fresh_of, step_of, mark_of, layer_at, trace_refusal, traced_of}
use Rattle.supervisor.specs.declared.Supervisor.{Supervisor}
use Rattle.history.specs.History.{Frame, Event, frame, mark, stands_at, refusal_of, Accepted, Call, does, reads, Answer, stepped, marked, answer_of}
use Rattle.page.specs.Page.{each, frames_back, signs, in_frame, look, place, section_bdi_bit, path_bdi_bit, iae_bit, biae_bit, section_bads, path_bads, report}
use Rattle.page.specs.Page.{trace_of_layer, answer, EveryPage, Acceptance, EveryStands}
use Rattle.page.proofs.Back.{sup, AcceptedBack, reached_is}
use Rattle.page.proofs.Sections.{trace_stands as section_trace_lem}
use Rattle.page.proofs.Paths.{trace_stands as path_trace_lem}
use Rattle.page.proofs.Standings.{standing, stands_is}
use Rattle.page.proofs.Seconds.{seconds_are, figures_are}
use Rattle.page.proofs.Refusals.{refusal_is, accepted_taken, taken_accepted}
use Rattle.page.proofs.Degraded.{deg_on, section_deg_is, path_deg_is}

abbrev answered : Stepped → Answer
answered a = stepped a.refusal a.report

-- a frame's answer by its refusal and its report
told : (r : ℕ) (x y : Report) (s t : Supervisor) → (w : Bool) → eqb r 0 ≡ w
    → answered (cond w (record { refusal = 0; report = x; supervisor = s }) (record { refusal = r; report = y; supervisor = t })) ≡ stepped r (cond w x y)
told r x y s t true e = ap (λ (n : ℕ). stepped n x) (sym (eqb-true r 0 e))
told r x y s t false e = refl

frame_answer : (s : Supervisor) (f : Frame)
    → answer_of s (does (frame f)) ≡ stepped (refusal_of s (frame f)) (cond (eqb (refusal_of s (frame f)) 0) (report_of (stands_at s f) f.sm f.pm) no_report)
unfolding answer_of step_of refusal_of
frame_answer s f = told (refusal_of s (frame f)) _ _ _ _ (eqb (refusal_of s (frame f)) 0) refl

-- a mark's by the seconds closed and its figures
mark_answer_lem : (s : Supervisor) → answer_of s (does mark)
    ≡ cond (ltb s.seconds 4294967295) (marked 0 (figures_of (s.seconds + 1) (closed_of s.second))) (marked 4 (replicate 22 0))
unfolding answer_of mark_of
mark_answer_lem s = cond_under (λ (m : Marked). marked m.refusal m.figures) (ltb s.seconds 4294967295) _ _

module _ (p : Settings) (v : SettingsIn p) (k : List Event) (a : AcceptedBack p k) where
  report_is : (f : Frame) → report_of (stands_at (sup p k) f) f.sm f.pm ≡ report p f k
  unfolding report_of ssf_of tim_acts head_of report
  report_is f =
      ap (λ (d : Standing). report_of d f.sm f.pm) (stands_is p v k f ∙ ap₂ (standing p f (frames_back k)) (section_deg_is p v k a) (path_deg_is p v k a))

  trace_is : (layer : ℕ) → trace_in (layer_at (sup p k) layer) ≡ trace_of_layer p layer k
  trace_is layer = cond_under trace_in (eqb layer 0) _ _ ∙ ap₂ (λ (x y : AcceptedTrace). cond (eqb layer 0) x y) (section_trace_lem p v k) (path_trace_lem p v k)

  read_is : (layer : ℕ) → answer_of (sup p k) (reads layer) ≡ answer p k (reads layer)
  unfolding answer_of answer traced_of trace_refusal
  read_is layer = by (leb layer 1) (layer_at (sup p k) layer).known refl refl
    where
      by : (t u : Bool) → leb layer 1 ≡ t → (layer_at (sup p k) layer).known ≡ u → answer_of (sup p k) (reads layer) ≡ answer p k (reads layer)
      by true true e d = rw (← trace_is layer, e, d)
      by true false e d = rw (← trace_is layer, e, d)
      by false u e d = rw e

  answers : (c : Call) → answer_of (sup p k) c ≡ answer p k c
  unfolding answer
  answers (does (frame f)) = frame_answer (sup p k) f ∙ ap₂ (λ (n : ℕ) (r : Report). stepped n (cond (eqb n 0) r no_report)) (refusal_is p v k a f) (report_is f)
  answers (does mark) =
      mark_answer_lem (sup p k)
      ∙ ap₂ (λ (n : ℕ) (l : List ℕ). cond (ltb n 4294967295) (marked 0 l) (marked 4 (replicate 22 0))) (seconds_are p k) (figures_are p v k a)
  answers (reads layer) = read_is layer

pub page : EveryPage
page p v h a c =
    ap (λ (s : Supervisor). answer_of s c) (reached_is p h)
    ∙ answers p v (reverse h) (subst⁻¹ (λ g. Accepted (fresh_of p) g) (reverse-reverse h) a) c

pub acceptance : Acceptance
acceptance p v h = (
  λ a. accepted_taken p v (reverse h) (subst⁻¹ (λ g. Accepted (fresh_of p) g) (reverse-reverse h) a),
  λ t. subst (λ g. Accepted (fresh_of p) g) (reverse-reverse h) (taken_accepted p v (reverse h) t),
)

-- what stands, by where it began and ended
pub filter_stands : (n : ℕ) (gs : List Given) → (on_by (suc n) (bits_since gs) ≡ true) ↔ On (suc n) (bits_since gs)
filter_stands n gs = rw (filter_on n gs).value at (filter_on n gs).on

frame_stands : (l : List Frame) (b : Bool) → (in_frame l ≡ b) ↔ Framed b (map signs l)
frame_stands l b = (
  λ e. subst (λ (t : Bool). Framed t (map signs l)) ((framing_is (map signs l)).value ∙ e) (framing_is (map signs l)).stands,
  λ e. sym (framing_is (map signs l)).value ∙ (framing_is (map signs l)).only b e,
)

multi_stands : (l : List Frame) (q : Place) → (place l ≡ q) ↔ Numbered q (each look l)
multi_stands l q = (
  λ e. subst (λ (t : Place). Numbered t (each look l)) ((multi_is (each look l)).value ∙ e) (multi_is (each look l)).stands,
  λ e. sym (multi_is (each look l)).value ∙ (multi_is (each look l)).only q e,
)

pub stands : EveryStands
stands p v l h = record {
  frame_is = frame_stands l;
  multi_is = multi_stands l;
  section_bdi_is = filter_stands 4 (each (section_bdi_bit p) l);
  path_bdi_is = filter_stands 4 (each (path_bdi_bit p) l);
  iae_is = filter_stands 4 (each (iae_bit p) l);
  biae_is = filter_stands 2 (each (biae_bit p) l);
  section_deg_is = deg_on p.section.degm (omega (arith, v.section.degm_least)) (section_bads p h);
  path_deg_is = deg_on p.path.degm (omega (arith, v.path.degm_least)) (path_bads p h);
}
