-- The section on the page is that of the definitions: accepted trace, dTIM, dBDI, dIAE, dBIAE, path SSF. Assumes nothing.
use mathlib.Core.Path.{◌≡◌, refl, ap, ap₂, ◌∙◌}
use mathlib.Core.Bool.{Bool, not, ◌&&◌, ◌||◌}
use mathlib.Core.List.{List, ◌∷◌}
use Prim.Native.Nat.{ℕ}
use lib.Dec.{eqb}
use Rattle.overhead.proofs.Codes.{same_far}
use Rattle.filter.specs.Filter.{filter_of}
use Rattle.layer.specs.Layer.{trace_of, layer_of, tim_of}
use Rattle.layer.specs.Traced.{trace_in}
use Rattle.frame.specs.Layers.{section_of, layers_of, standing_of, section_stands}
use Rattle.causes.specs.Causes.{ssf_of, tim_acts, path_ssf as ssf_of_path}
use Rattle.settings.specs.Ranges.{SettingsIn}
use Rattle.settings.specs.declared.Settings.{Settings}
use Rattle.supervisor.specs.Supervisor.{frame_of, stands_after, next_second}
use Rattle.history.specs.History.{Frame, Event, frame, framed, stands_at, event_of}
use Rattle.page.specs.Page.{frames_back, sm, section_ssf, section_turn, section_trace, section_tim, section_bdi_bit, section_bdi}
use Rattle.page.specs.Page.{iae_bit, dIAE, biae_bit, dBIAE, path_ssf}
use Rattle.page.proofs.Back.{sup, settings_kept, ap₃}
use Rattle.page.proofs.Lines.{in_multi_lem, local_number_lem, ssf_is}
use Rattle.page.proofs.Mechanisms.{trace_only, trace_only_lem, turned, filter_law, trace_law, tim_law}

module _ (p : Settings) (v : SettingsIn p) where
  -- a frame's turn of the trace is the page's
  turn_step : (k : List Event) (f : Frame)
      → trace_only (framed (sup p k) f).layers.section.layer ≡ turned (trace_only (sup p k).layers.section.layer) (section_turn p f (frames_back k))
  unfolding frame_of layers_of section_of layer_of stands_after standing_of event_of frames_back
  turn_step k f =
      trace_only_lem (sup p k).layers.section.layer _ _ _ _
      ∙ ap₃ (λ (x y : Bool) (n : ℕ). trace_of (trace_only (sup p k).layers.section.layer) x y n (sm f).tti)
      (ssf_is p k f) (in_multi_lem p (frame f ∷ k)) (local_number_lem p (frame f ∷ k))

  -- the accepted trace, dTIM, dBDI
  pub trace_stands : (k : List Event) → trace_in (sup p k).layers.section.layer ≡ section_trace p (frames_back k)
  unfolding next_second
  trace_stands = trace_law (section_turn p) (λ f l. refl) (λ f l. refl) p (λ s. s.layers.section.layer) turn_step (λ s. refl) refl

  pub tim_stands : (k : List Event)
      → tim_of (sup p k).layers.section.layer (sup p k).settings.section.mode (sup p k).settings.section.names ≡ section_tim p (frames_back k)
  unfolding next_second
  tim_stands k =
      ap (λ (x : Settings). tim_of (sup p k).layers.section.layer x.section.mode x.section.names) (settings_kept p k)
      ∙ tim_law (section_turn p) (λ f l. refl) (λ f l. refl) p (λ s. s.layers.section.layer) turn_step (λ s. refl) refl k
      p.section.mode p.section.names v.section.names

  pub bdi_stands : (k : List Event) → (sup p k).layers.section.layer.bdi.on ≡ section_bdi p (frames_back k)
  unfolding frame_of layers_of section_of layer_of stands_after standing_of next_second
  bdi_stands =
      filter_law p 4 (λ s. s.layers.section.layer.bdi) (section_bdi_bit p)
      (λ k f. ap (λ (x : Bool). filter_of (sup p k).layers.section.layer.bdi 5 x (sm f).bdi) (ssf_is p k f)) (λ s. refl) refl

  tim_here : (k : List Event) (f : Frame) → (stands_at (sup p k) f).section.tim ≡ section_tim p (f ∷ frames_back k)
  unfolding stands_after standing_of section_stands frame_of event_of frames_back
  tim_here k f = tim_stands (frame f ∷ k)

  -- SSF or dTIM
  faults_is : (k : List Event) (f : Frame)
      → (ssf_of (stands_at (sup p k) f).line || (stands_at (sup p k) f).section.tim) ≡ (section_ssf p f (frames_back k) || section_tim p (f ∷ frames_back k))
  faults_is k f = ap₂ (λ (x y : Bool). x || y) (ssf_is p k f) (tim_here k f)

  -- dIAE and dBIAE
  pub iae_stands : (k : List Event) → (sup p k).layers.section.iae.on ≡ dIAE p (frames_back k)
  unfolding frame_of layers_of section_of stands_after standing_of section_stands next_second
  iae_stands =
      filter_law p 4 (λ s. s.layers.section.iae) (iae_bit p)
      (λ k f. ap (λ (x : Bool). filter_of (sup p k).layers.section.iae 5 x (sm f).iae) (faults_is k f)) (λ s. refl) refl

  pub biae_stands : (k : List Event) → (sup p k).layers.section.biae.on ≡ dBIAE p (frames_back k)
  unfolding frame_of layers_of section_of stands_after standing_of section_stands next_second
  biae_stands =
      filter_law p 2 (λ s. s.layers.section.biae) (biae_bit p)
      (λ k f. ap₂ (λ (x y : Bool). filter_of (sup p k).layers.section.biae 3 x y) (faults_is k f) (same_far (sm f).bei).mark) (λ s. refl) refl

  -- "Path SSF = section aTSF"
  pub path_ssf_is : (k : List Event) (f : Frame) → ssf_of_path (stands_at (sup p k) f) ≡ path_ssf p f (frames_back k)
  unfolding tim_acts stands_after standing_of section_stands
  path_ssf_is k f = ap₃ (λ (x y : Bool) (s : Settings). x || (y && not s.section.disabled)) (ssf_is p k f) (tim_here k f) (settings_kept p k)
