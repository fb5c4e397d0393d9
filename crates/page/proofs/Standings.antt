-- What stands after a frame, but for dDEG, is the page's. Assumes nothing.
use mathlib.Core.Path.{◌≡◌, refl, ap}
use mathlib.Core.Bool.{Bool, ◌||◌}
use mathlib.Core.List.{List, ◌∷◌}
use Prim.Native.Nat.{ℕ, ◌%◌}
use lib.Dec.{eqb}
use Rattle.answer.proofs.Cond.{by_cond}
use Rattle.layer.specs.declared.Layer.{Layer}
use Rattle.layer.specs.Layer.{equal_of, gathered_at, closed_cycle, byte_of, trace_of, layer_of}
use Rattle.signal.specs.declared.Signal.{Signal}
use Rattle.frame.specs.Layers.{line_of, section_of, path_of, layers_of, standing_of, section_stands, path_stands}
use Rattle.causes.specs.declared.Line.{Line}
use Rattle.causes.specs.declared.SectionStands.{SectionStands}
use Rattle.causes.specs.declared.PathStands.{PathStands}
use Rattle.causes.specs.declared.Standing.{Standing}
use Rattle.settings.specs.Ranges.{SettingsIn}
use Rattle.settings.specs.declared.Settings.{Settings}
use Rattle.supervisor.specs.Supervisor.{frame_of, stands_after}
use Rattle.supervisor.specs.declared.Supervisor.{Supervisor}
use Rattle.history.specs.History.{Frame, Event, frame, framed, stands_at, event_of}
use Rattle.page.specs.Page.{frames_back, in_frame, in_multi, tsf_p, otuk_ais, dLOF, dLOM, section_tim, section_bdi, dIAE, dBIAE, signal, path_tim, path_bdi}
use Rattle.page.proofs.Back.{sup, settings_kept, ap₃}
use Rattle.page.proofs.Lines.{in_frame_lem, in_multi_lem, lof_stands, lom_stands}
use Rattle.page.proofs.Sections.{tim_stands as section_tim_lem, bdi_stands as section_bdi_is, iae_stands, biae_stands}
use Rattle.page.proofs.Paths.{signal_stands, tim_stands as path_tim_lem, bdi_stands as path_bdi_is}

-- a frame leaves dDEG
pub trace_deg : (l : Layer) (forget inmulti : Bool) (n t : ℕ) → (trace_of l forget inmulti n t).deg ≡ l.deg
unfolding trace_of byte_of closed_cycle
trace_deg l forget inmulti n t =
    let P : Layer → Type 0 = λ z. z.deg ≡ l.deg in
    by_cond P forget (λ _. refl)
    (λ _. by_cond P inmulti
    (λ _. by_cond P (eqb (n % 64) 0 || l.gathering)
    (λ _. by_cond P (eqb (n % 64) 63) (λ _. by_cond P (eqb (equal_of (gathered_at l (n % 64) t)) 3) (λ _. refl) (λ _. refl)) (λ _. refl))
    (λ _. refl))
    (λ _. refl))

pub section_deg_kept : (s : Supervisor) (f : Frame) → (framed s f).layers.section.layer.deg ≡ s.layers.section.layer.deg
unfolding frame_of layers_of section_of layer_of
section_deg_kept s f = trace_deg s.layers.section.layer _ _ _ _

pub path_deg_kept : (s : Supervisor) (f : Frame) → (framed s f).layers.path.layer.deg ≡ s.layers.path.layer.deg
unfolding frame_of layers_of path_of layer_of
path_deg_kept s f = trace_deg s.layers.path.layer _ _ _ _

-- what stands on the page after the frame f, by the frames l before it and dDEG of section and path
module _ (p : Settings) (f : Frame) (l : List Frame) where
  abbrev pub line : Line
  line = record { inframe = in_frame (f ∷ l); inmulti = in_multi (f ∷ l); tsf = tsf_p f; ais = otuk_ais f; lof = dLOF p (f ∷ l); lom = dLOM p (f ∷ l) }

  abbrev pub section : Bool → SectionStands
  section deg = record {
    tim = section_tim p (f ∷ l);
    disabled = p.section.disabled;
    bdi = section_bdi p (f ∷ l);
    iae = dIAE p (f ∷ l);
    biae = dBIAE p (f ∷ l);
    deg = deg;
  }

  abbrev pub path : Bool → PathStands
  path deg = record { signal = signal p (f ∷ l); tim = path_tim p (f ∷ l); disabled = p.path.disabled; bdi = path_bdi p (f ∷ l); deg = deg }

  abbrev pub standing : Bool → Bool → Standing
  standing s-deg p-deg = record { line = line; section = section s-deg; path = path p-deg }

-- equal in every field
line_same : {a a' b b' c c' d d' : Bool} (t o : Bool) → a ≡ a' → b ≡ b' → c ≡ c' → d ≡ d'
    → ◌≡◌ {A = Line} (record { inframe = a; inmulti = b; tsf = t; ais = o; lof = c; lom = d })
    (record { inframe = a'; inmulti = b'; tsf = t; ais = o; lof = c'; lom = d' })
line_same t o p q r s = cc

section_same : {a a' b b' c c' d d' e e' g g' : Bool} → a ≡ a' → b ≡ b' → c ≡ c' → d ≡ d' → e ≡ e' → g ≡ g'
    → ◌≡◌ {A = SectionStands} (record { tim = a; disabled = b; bdi = c; iae = d; biae = e; deg = g })
    (record { tim = a'; disabled = b'; bdi = c'; iae = d'; biae = e'; deg = g' })
section_same p q r s t u = cc

path_same : {x x' : Signal} {a a' b b' c c' d d' : Bool} → x ≡ x' → a ≡ a' → b ≡ b' → c ≡ c' → d ≡ d'
    → ◌≡◌ {A = PathStands} (record { signal = x; tim = a; disabled = b; bdi = c; deg = d })
    (record { signal = x'; tim = a'; disabled = b'; bdi = c'; deg = d' })
path_same p q r s t = cc

module _ (p : Settings) (v : SettingsIn p) (k : List Event) (f : Frame) where
  line_is : (stands_at (sup p k) f).line ≡ line p f (frames_back k)
  unfolding stands_after standing_of line_of frame_of event_of frames_back
  line_is =
      let h : List Event = frame f ∷ k in
      line_same (tsf_p f) (otuk_ais f) (in_frame_lem p h) (in_multi_lem p h) (lof_stands p h) (lom_stands p h)

  section_is : (stands_at (sup p k) f).section ≡ section p f (frames_back k) (sup p k).layers.section.layer.deg.on
  unfolding stands_after standing_of section_stands frame_of event_of frames_back
  section_is =
      let h : List Event = frame f ∷ k in
      section_same (section_tim_lem p v h) (ap (λ (x : Settings). x.section.disabled) (settings_kept p k)) (section_bdi_is p v h) (iae_stands p v h)
      (biae_stands p v h) (ap (λ z. z.on) (section_deg_kept (sup p k) f))

  path_is : (stands_at (sup p k) f).path ≡ path p f (frames_back k) (sup p k).layers.path.layer.deg.on
  unfolding stands_after standing_of path_stands frame_of event_of frames_back
  path_is =
      let h : List Event = frame f ∷ k in
      path_same (signal_stands p v h) (path_tim_lem p v h) (ap (λ (x : Settings). x.path.disabled) (settings_kept p k)) (path_bdi_is p v h)
      (ap (λ z. z.on) (path_deg_kept (sup p k) f))

  pub stands_is : stands_at (sup p k) f ≡ standing p f (frames_back k) (sup p k).layers.section.layer.deg.on (sup p k).layers.path.layer.deg.on
  stands_is = ap₃ (λ (x : Line) (y : SectionStands) (z : PathStands). record { line = x; section = y; path = z }) line_is section_is path_is
