-- dDEG on the page is that of the definitions. Assumes nothing.
use mathlib.Core.Path.{◌≡◌, refl, ap, ◌∙◌, subst⁻¹}
use mathlib.Core.Logic.{◌↔◌}
use mathlib.Core.Bool.{Bool, true, false}
use mathlib.Core.List.{List, [], ◌∷◌, map}
use Prim.Native.Nat.{ℕ, ◌<◌}
use native.Mathlib.Omega.{arith}
use lib.Dec.{leb}
use Rattle.filter.specs.declared.Filter.{Filter}
use Rattle.filter.specs.Filter.{filter_of}
use Rattle.filter.specs.Since.{On, Given, FilterIs, filter_after, bits_since, on_by}
use Rattle.filter.proofs.Since.{filter_on}
use Rattle.second.specs.Second.{closed_of}
use Rattle.settings.specs.Ranges.{SettingsIn}
use Rattle.settings.specs.declared.Settings.{Settings}
use Rattle.supervisor.specs.Supervisor.{fresh_of, next_second}
use Rattle.supervisor.specs.declared.Supervisor.{Supervisor}
use Rattle.history.specs.History.{Frame, Event, frame, mark, framed, event_of}
use Rattle.page.specs.Page.{bad_seconds, section_near_blocks, section_bads, section_deg, path_near_blocks, path_bads, path_deg}
use Rattle.page.proofs.Back.{sup, AcceptedBack, accepted_before, settings_kept, ap₃, Suc, suc_of}
use Rattle.page.proofs.Standings.{section_deg_kept, path_deg_kept}
use Rattle.page.proofs.Seconds.{section_near_is, path_near_is}

-- a second gives its filter a bit, and never makes it forget
abbrev pub second : Bool → Given
second bad = record { forget = false; bit = bad }

bits_all : (bads : List Bool) → bits_since (map second bads) ≡ bads
unfolding bits_since
bits_all [] = refl
bits_all (x ∷ bads) = ap (λ l. x ∷ l) (bits_all bads)

-- a filter of n over the seconds
filter_is : (n : ℕ) → 0 < n → (bads : List Bool) → FilterIs n (map second bads)
filter_is n h bads = let s : Suc n = suc_of n h in subst⁻¹ (λ (m : ℕ). FilterIs m (map second bads)) s.is (filter_on s.one_less (map second bads))

pub deg_on : (n : ℕ) → 0 < n → (bads : List Bool) → (on_by n bads ≡ true) ↔ On n bads
deg_on n h bads = rw ((filter_is n h bads).value, bits_all bads) at (filter_is n h bads).on

pub deg_value : (n : ℕ) → 0 < n → (bads : List Bool) → (filter_after n (map second bads)).on ≡ on_by n bads
deg_value n h bads = (filter_is n h bads).value ∙ ap (on_by n) (bits_all bads)

-- one mark of the definitions
section_step : (s : Supervisor) → (next_second s).layers.section.layer.deg
    ≡ filter_of s.layers.section.layer.deg s.settings.section.degm false (leb s.settings.section.thr (closed_of s.second).section.near.0)
unfolding next_second
section_step s = refl

path_step : (s : Supervisor) → (next_second s).layers.path.layer.deg
    ≡ filter_of s.layers.path.layer.deg s.settings.path.degm false (leb s.settings.path.thr (closed_of s.second).path.near.0)
unfolding next_second
path_step s = refl

-- dDEG of a layer over the seconds, whichever layer it is
module _ (p : Settings) (degm thr : Settings → ℕ) (get : Supervisor → Filter) (near : Supervisor → ℕ) (blocks : List Event → ℕ)
    (keep : (s : Supervisor) (f : Frame) → get (framed s f) ≡ get s)
    (step : (s : Supervisor) → get (next_second s) ≡ filter_of (get s) (degm s.settings) false (leb (thr s.settings) (near s)))
    (near_is : (k : List Event) → AcceptedBack p k → near (sup p k) ≡ blocks k) (start : get (fresh_of p) ≡ filter_after (degm p) []) where
  over : (k : List Event) → AcceptedBack p k → get (sup p k) ≡ filter_after (degm p) (map second (bad_seconds (thr p) blocks k))
  unfolding filter_after bad_seconds event_of
  over [] a = start
  over (frame f ∷ k) a = keep (sup p k) f ∙ over k (accepted_before p (frame f) k a)
  over (mark ∷ k) a =
      let b : AcceptedBack p k = accepted_before p mark k a in
      step (sup p k)
      ∙ ap₃ (λ (z : Filter) (x : Settings) (n : ℕ). filter_of z (degm x) false (leb (thr x) n)) (over k b) (settings_kept p k) (near_is k b)

module _ (p : Settings) (v : SettingsIn p) where
  pub section_deg_is : (k : List Event) → AcceptedBack p k → (sup p k).layers.section.layer.deg.on ≡ section_deg p k
  unfolding filter_after
  section_deg_is k a =
      ap (λ (z : Filter). z.on)
      (over p (λ x. x.section.degm) (λ x. x.section.thr) (λ s. s.layers.section.layer.deg) (λ s. (closed_of s.second).section.near.0)
      (section_near_blocks p) section_deg_kept section_step (section_near_is p v) refl k a)
      ∙ deg_value p.section.degm (omega (arith, v.section.degm_least)) (section_bads p k)

  pub path_deg_is : (k : List Event) → AcceptedBack p k → (sup p k).layers.path.layer.deg.on ≡ path_deg p k
  unfolding filter_after
  path_deg_is k a =
      ap (λ (z : Filter). z.on)
      (over p (λ x. x.path.degm) (λ x. x.path.thr) (λ s. s.layers.path.layer.deg) (λ s. (closed_of s.second).path.near.0)
      (path_near_blocks p) path_deg_kept path_step (path_near_is p v) refl k a)
      ∙ deg_value p.path.degm (omega (arith, v.path.degm_least)) (path_bads p k)
