-- The path on the page is that of the definitions: the accepted STAT, the accepted trace, dTIM, dBDI. Assumes nothing.
use mathlib.Core.Path.{◌≡◌, refl, ap, ap₂, ◌∙◌}
use mathlib.Core.Bool.{Bool, true, false, ◌||◌}
use mathlib.Core.List.{List, ◌∷◌}
use Prim.Native.Nat.{ℕ}
use Rattle.filter.specs.declared.Stat.{Stat}
use Rattle.filter.specs.Filter.{filter_of}
use Rattle.filter.specs.Stat.{stat_of}
use Rattle.filter.specs.Stood.{stat_after}
use Rattle.filter.proofs.Stood.{stat_is}
use Rattle.layer.specs.Layer.{trace_of, layer_of, tim_of}
use Rattle.layer.specs.Traced.{trace_in}
use Rattle.signal.specs.Signal.{stands_for, is_ais}
use Rattle.frame.specs.Layers.{path_of, layers_of, standing_of, path_stands}
use Rattle.causes.specs.Causes.{path_ssf as ssf_of_path}
use Rattle.settings.specs.Ranges.{SettingsIn}
use Rattle.settings.specs.declared.Settings.{Settings}
use Rattle.supervisor.specs.Supervisor.{frame_of, stands_after, next_second}
use Rattle.history.specs.History.{Frame, Event, frame, framed, stands_at, event_of}
use Rattle.page.specs.Page.{each, frames_back, pm, path_ssf, stat_told, signal, dAIS, path_turn, path_trace, path_tim, path_bdi_bit, path_bdi}
use Rattle.page.proofs.Back.{sup, settings_kept, ap₃, carried}
use Rattle.page.proofs.Lines.{in_multi_lem, local_number_lem}
use Rattle.page.proofs.Mechanisms.{trace_only, trace_only_lem, turned, filter_law, trace_law, tim_law}
use Rattle.page.proofs.Sections.{path_ssf_is}

-- what the accepted STAT raises
signal_is : (p : Settings) (l : List Frame) → stands_for (stat_after (each (stat_told p) l)) ≡ signal p l
unfolding stands_for
signal_is p l = by (stat_after (each (stat_told p) l)).known refl
  where
    by : (t : Bool) → (stat_after (each (stat_told p) l)).known ≡ t → stands_for (stat_after (each (stat_told p) l)) ≡ signal p l
    by true e = rw (← stat_is (each (stat_told p) l), e)
    by false e = rw (← stat_is (each (stat_told p) l), e)

module _ (p : Settings) (v : SettingsIn p) where
  -- dAIS, dOCI, dLCK
  stat_over : (k : List Event) → (sup p k).layers.path.stat ≡ stat_after (each (stat_told p) (frames_back k))
  unfolding stat_after frame_of layers_of path_of stands_after standing_of next_second
  stat_over =
      carried p stat_after (λ s. s.layers.path.stat) (stat_told p)
      (λ k f gs e. ap₂ (λ (z : Stat) (x : Bool). stat_of z x (pm f).stat) e (path_ssf_is p v k f)) (λ s. refl) refl

  pub signal_stands : (k : List Event) → stands_for (sup p k).layers.path.stat ≡ signal p (frames_back k)
  signal_stands k = ap stands_for (stat_over k) ∙ signal_is p (frames_back k)

  -- path SSF or dAIS
  faults_is : (k : List Event) (f : Frame)
      → (ssf_of_path (stands_at (sup p k) f) || is_ais (stands_at (sup p k) f).path.signal) ≡ (path_ssf p f (frames_back k) || dAIS p (f ∷ frames_back k))
  unfolding stands_after standing_of path_stands frame_of event_of frames_back
  faults_is k f = ap₂ (λ (x y : Bool). x || y) (path_ssf_is p v k f) (ap is_ais (signal_stands (frame f ∷ k)))

  -- a frame's turn of the trace is the page's
  turn_step : (k : List Event) (f : Frame)
      → trace_only (framed (sup p k) f).layers.path.layer ≡ turned (trace_only (sup p k).layers.path.layer) (path_turn p f (frames_back k))
  unfolding frame_of layers_of path_of layer_of stands_after standing_of path_stands event_of frames_back
  turn_step k f =
      trace_only_lem (sup p k).layers.path.layer _ _ _ _
      ∙ ap₃ (λ (x y : Bool) (n : ℕ). trace_of (trace_only (sup p k).layers.path.layer) x y n (pm f).tti)
      (faults_is k f) (in_multi_lem p (frame f ∷ k)) (local_number_lem p (frame f ∷ k))

  -- the accepted trace, dTIM, dBDI
  pub trace_stands : (k : List Event) → trace_in (sup p k).layers.path.layer ≡ path_trace p (frames_back k)
  unfolding next_second
  trace_stands = trace_law (path_turn p) (λ f l. refl) (λ f l. refl) p (λ s. s.layers.path.layer) turn_step (λ s. refl) refl

  pub tim_stands : (k : List Event)
      → tim_of (sup p k).layers.path.layer (sup p k).settings.path.mode (sup p k).settings.path.names ≡ path_tim p (frames_back k)
  unfolding next_second
  tim_stands k =
      ap (λ (x : Settings). tim_of (sup p k).layers.path.layer x.path.mode x.path.names) (settings_kept p k)
      ∙ tim_law (path_turn p) (λ f l. refl) (λ f l. refl) p (λ s. s.layers.path.layer) turn_step (λ s. refl) refl k
      p.path.mode p.path.names v.path.names

  pub bdi_stands : (k : List Event) → (sup p k).layers.path.layer.bdi.on ≡ path_bdi p (frames_back k)
  unfolding frame_of layers_of path_of layer_of stands_after standing_of path_stands next_second
  bdi_stands =
      filter_law p 4 (λ s. s.layers.path.layer.bdi) (path_bdi_bit p)
      (λ k f. ap (λ (x : Bool). filter_of (sup p k).layers.path.layer.bdi 5 x (pm f).bdi) (faults_is k f)) (λ s. refl) refl
