-- What stands of a level after a frame, but for dDEG, is the sheet's: the accepted STAT, the accepted trace, dTIM, dBDI, dIAE, dBIAE. Assumes nothing.
use Prim.Native.Nat.{ℕ}
use mathlib.Core.Path.{◌≡◌, refl, sym, ap, ap₂, ◌∙◌, subst⁻¹}
use mathlib.Core.Bool.{Bool, true, false, cond, not, ◌&&◌, ◌||◌, or-false}
use mathlib.Core.List.{List, [], ◌∷◌}
use lib.Dec.{eqb}
use borrow.Author.Tests.{eqb-true}
use Rattle.answer.proofs.Cond.{by_cond}
use Rattle.overhead.proofs.Codes.{same_far}
use Rattle.filter.specs.declared.Filter.{Filter}
use Rattle.filter.specs.declared.Stat.{Stat}
use Rattle.filter.specs.Filter.{filter_of}
use Rattle.filter.specs.Since.{filter_after}
use Rattle.filter.specs.Stat.{stat_of}
use Rattle.filter.specs.Stood.{AcceptedValue, none, value, stat_after, value_in}
use Rattle.filter.proofs.Since.{filter_on}
use Rattle.filter.proofs.Stood.{stat_is}
use Rattle.layer.specs.declared.Layer.{Layer}
use Rattle.layer.specs.Layer.{trace_of, layer_of, tim_of}
use Rattle.layer.specs.Traced.{trace_after, trace_in}
use Rattle.settings.specs.Ranges.{SettingsIn}
use Rattle.settings.specs.declared.Options.{Options}
use Rattle.settings.specs.declared.Settings.{Settings}
use Rattle.causes.specs.Causes.{path_ssf as ssf_of_path}
use Rattle.level.specs.Status.{status_of, status_for, raises_ltc, raises_iae, raises_lck, raises_oci, raises_ais}
use Rattle.level.specs.Level.{level_of, stands_by, level_stands, level_marked, level_down}
use Rattle.level.specs.declared.Status.{Status}
use Rattle.level.specs.declared.Status.TheVariants.{Clear, Ltc, Iae, Lck, Oci, Ais}
use Rattle.level.specs.declared.LevelStands.{LevelStands}
use Rattle.history.specs.History.{Frame, frame, stands_at, event_of}
use Rattle.page.specs.Page.{each, frames_back, path_ssf}
use Rattle.page.proofs.Back.{sup, ap₃}
use Rattle.page.proofs.Lines.{in_multi_lem, local_number_lem}
use Rattle.page.proofs.Mechanisms.{trace_only, trace_only_lem, turned, trace_by, tim_by_lem}
use Rattle.page.proofs.Sections.{path_ssf_is}
use Rattle.sheet.specs.Sheet.{LevelEvent, counted, closed, plainly, frames_in, is_value, field, stat_told, accepted_stat, status, dAIS, turn, accepted_trace}
use Rattle.sheet.specs.Sheet.{bdi_bit, dBDI, down, dTIM, dIAE, biae_bit, dBIAE}
use Rattle.sheet.proofs.Own.{own, Ready}

-- a mechanism that takes something of each frame, and nothing of a mark, by the list of what it takes
module _ {X G : Type 0} (run : List G → X) (get : List LevelEvent → X) (given : Frame → List Frame → G)
    (take : (h : List LevelEvent) (f : Frame) (counts : List ℕ) (gs : List G) → get h ≡ run gs → get (counted f counts ∷ h) ≡ run (given f (frames_in h) ∷ gs))
    (keep : (h : List LevelEvent) → get (closed ∷ h) ≡ get h) (start : get [] ≡ run []) where
  carried : (h : List LevelEvent) → get h ≡ run (each given (frames_in h))
  unfolding each frames_back
  carried [] = start
  carried (counted f counts ∷ h) = take h f counts (each given (frames_in h)) (carried h)
  carried (closed ∷ h) = keep h ∙ carried h

-- what an accepted value stands for
abbrev status_by : AcceptedValue → Status
status_by a = cond (is_value 0 a) Ltc (cond (is_value 2 a) Iae (cond (is_value 5 a) Lck (cond (is_value 6 a) Oci (cond (is_value 7 a) Ais Clear))))

status_for_lem : (s : Stat) → status_for s ≡ status_by (value_in s)
unfolding status_for status_of
status_for_lem s = by s.known refl
  where
    by : (t : Bool) → s.known ≡ t → status_for s ≡ status_by (value_in s)
    by true e = rw (e, or-false (eqb s.accepted 0), or-false (eqb s.accepted 2), or-false (eqb s.accepted 5), or-false (eqb s.accepted 6), or-false (eqb s.accepted 7))
    by false e = rw e

-- and what it raises
pub record Raised (g : Status) (is : ℕ → Bool) : Type 0 where
  pub ltc : raises_ltc g ≡ is 0
  pub iae : raises_iae g ≡ is 2
  pub lck : raises_lck g ≡ is 5
  pub oci : raises_oci g ≡ is 6
  pub ais : raises_ais g ≡ is 7

one_raised : (v : ℕ) → Raised (status_by (value v)) (eqb v)
one_raised v =
    by_cond P (eqb v 0) (λ e. at Ltc 0 e (record { ltc = refl; iae = refl; lck = refl; oci = refl; ais = refl }))
    (λ zero. by_cond P (eqb v 2) (λ e. at Iae 2 e (record { ltc = refl; iae = refl; lck = refl; oci = refl; ais = refl }))
    (λ two. by_cond P (eqb v 5) (λ e. at Lck 5 e (record { ltc = refl; iae = refl; lck = refl; oci = refl; ais = refl }))
    (λ five. by_cond P (eqb v 6) (λ e. at Oci 6 e (record { ltc = refl; iae = refl; lck = refl; oci = refl; ais = refl }))
    (λ six. by_cond P (eqb v 7) (λ e. at Ais 7 e (record { ltc = refl; iae = refl; lck = refl; oci = refl; ais = refl }))
    (λ seven. record { ltc = sym zero; iae = sym two; lck = sym five; oci = sym six; ais = sym seven })))))
  where
    P : Status → Type 0
    P g = Raised g (eqb v)

    at : (g : Status) (w : ℕ) → eqb v w ≡ true → Raised g (eqb w) → P g
    at g w e r = subst⁻¹ (λ (x : ℕ). Raised g (eqb x)) (eqb-true v w e) r

raised_by : (a : AcceptedValue) → Raised (status_by a) (λ v. is_value v a)
raised_by none = record { ltc = refl; iae = refl; lck = refl; oci = refl; ais = refl }
raised_by (value v) = one_raised v

pub raises : (p : Settings) (n : ℕ) (l : List Frame) → Raised (status p n l) (λ v. is_value v (accepted_stat p n l))
raises p n l = raised_by (accepted_stat p n l)

-- what stands on the sheet after the frames l, by SSF and dDEG
abbrev pub standing : (p : Settings) (n : ℕ) (o : Options) → List Frame → Bool → Bool → LevelStands
standing p n o l ssf deg = record {
  ssf = ssf;
  status = status p n l;
  tim = dTIM p n o l;
  disabled = o.disabled;
  bdi = dBDI p n l;
  iae = dIAE p n o l;
  biae = dBIAE p n o l;
  deg = deg;
}

-- equal in every field
same : {g g' : Status} {a a' b b' c c' d d' e e' f f' : Bool} (t : Bool) → a ≡ a' → g ≡ g' → b ≡ b' → c ≡ c' → d ≡ d' → e ≡ e' → f ≡ f'
    → ◌≡◌ {A = LevelStands} (record { ssf = a; status = g; tim = b; disabled = t; bdi = c; iae = d; biae = e; deg = f })
    (record { ssf = a'; status = g'; tim = b'; disabled = t; bdi = c'; iae = d'; biae = e'; deg = f' })
same t p q r s u v w = cc

module _ (p : Settings) (v : SettingsIn p) (n : ℕ) (o : Options) (ready : Ready o) where
  -- STAT
  stat_over : (h : List LevelEvent) → (own p n o h).state.stat ≡ stat_after (each (stat_told p n) (frames_in h))
  unfolding stat_after level_of level_marked
  stat_over =
      carried stat_after (λ h. (own p n o h).state.stat) (stat_told p n)
      (λ h f counts gs e. ap₂ (λ (z : Stat) (x : Bool). stat_of z x (field p n f).stat) e (path_ssf_is p v (plainly h) f)) (λ h. refl) refl

  pub status_is : (h : List LevelEvent) → status_for (own p n o h).state.stat ≡ status p n (frames_in h)
  status_is h = ap status_for (stat_over h) ∙ status_for_lem (stat_after (each (stat_told p n) (frames_in h))) ∙ ap status_by (stat_is (each (stat_told p n) (frames_in h)))

  -- CI_SSF or dAIS
  faults_is : (h : List LevelEvent) (f : Frame) (counts : List ℕ)
      → (ssf_of_path (stands_at (sup p (plainly h)) f) || raises_ais (status_for (own p n o (counted f counts ∷ h)).state.stat))
      ≡ (path_ssf p f (frames_in h) || dAIS p n (f ∷ frames_in h))
  unfolding frames_back
  faults_is h f counts =
      ap₂ (λ (x y : Bool). x || y) (path_ssf_is p v (plainly h) f)
      (ap raises_ais (status_is (counted f counts ∷ h)) ∙ (raises p n (f ∷ frames_in h)).ais)

  -- the accepted trace, dTIM, dBDI
  trace_over : (h : List LevelEvent) → trace_only (own p n o h).state.layer ≡ trace_after (each (turn p n) (frames_in h))
  unfolding trace_after level_of level_marked layer_of event_of frames_back
  trace_over =
      carried trace_after (λ h. trace_only (own p n o h).state.layer) (turn p n)
      (λ h f counts gs e.
      trace_only_lem (own p n o h).state.layer _ _ _ _
      ∙ ap₃ (λ (x y : Bool) (m : ℕ). trace_of (trace_only (own p n o h).state.layer) x y m (field p n f).tti)
      (faults_is h f counts) (in_multi_lem p (frame f ∷ plainly h)) (local_number_lem p (frame f ∷ plainly h))
      ∙ ap (λ (z : Layer). turned z (turn p n f (frames_in h))) e)
      (λ h. refl) refl

  pub trace_stands : (h : List LevelEvent) → trace_in (own p n o h).state.layer ≡ accepted_trace p n (frames_in h)
  trace_stands h = trace_by (turn p n) (λ f l. refl) (λ f l. refl) (frames_in h) (own p n o h).state.layer (trace_over h)

  tim_stands : (h : List LevelEvent) → tim_of (own p n o h).state.layer o.mode o.names ≡ dTIM p n o (frames_in h)
  tim_stands h =
      tim_by_lem (turn p n) (λ f l. refl) (λ f l. refl) (frames_in h) (own p n o h).state.layer (trace_over h) o.mode o.names ready.1

  bdi_stands : (h : List LevelEvent) → (own p n o h).state.layer.bdi.on ≡ dBDI p n (frames_in h)
  unfolding filter_after level_of level_marked layer_of
  bdi_stands h =
      ap (λ (z : Filter). z.on)
      (carried (filter_after 5) (λ k. (own p n o k).state.layer.bdi) (bdi_bit p n)
      (λ k f counts gs e. ap₂ (λ (z : Filter) (x : Bool). filter_of z 5 x (field p n f).bdi) e (faults_is k f counts)) (λ k. refl) refl h)
      ∙ (filter_on 4 (each (bdi_bit p n) (frames_in h))).value

  -- dBIAE
  biae_stands : (h : List LevelEvent) → (own p n o h).state.biae.on ≡ dBIAE p n o (frames_in h)
  unfolding filter_after level_of level_marked frames_back
  biae_stands h =
      ap (λ (z : Filter). z.on)
      (carried (filter_after 3) (λ k. (own p n o k).state.biae) (biae_bit p n o)
      (λ k f counts gs e.
      ap₃ (λ (z : Filter) (x y : Bool). filter_of z 3 x y) e (ap₂ (λ (x y : Bool). x || y) (faults_is k f counts) (tim_stands (counted f counts ∷ k))) (same_far (field p n f).bei).mark)
      (λ k. refl) refl h)
      ∙ (filter_on 2 (each (biae_bit p n o) (frames_in h))).value

  -- what stands, dIAE among it
  pub stands_are : (h : List LevelEvent) {x y d : Bool} → x ≡ y → (own p n o h).state.layer.deg.on ≡ d
      → level_stands (own p n o h).state o x ≡ standing p n o (frames_in h) y d
  unfolding stands_by
  stands_are h s e =
      same o.disabled s (status_is h) (tim_stands h) (bdi_stands h)
      (ap₂ (λ (x t : Bool). x && not t) (ap raises_iae (status_is h) ∙ (raises p n (frames_in h)).iae) (tim_stands h))
      (biae_stands h) e

-- what stops both counts
down_same : (s : Bool) (g : Status) {a b c d : Bool} → raises_ais g ≡ a → raises_ltc g ≡ b → raises_oci g ≡ c → raises_lck g ≡ d
    → (s || raises_ais g || raises_ltc g || raises_oci g || raises_lck g) ≡ (s || a || b || c || d)
down_same s g p q r t = cc

pub down_is : (p : Settings) (n : ℕ) (o : Options) (f : Frame) (l : List Frame)
    → level_down (standing p n o (f ∷ l) (path_ssf p f l) false) ≡ down p n f l
down_is p n o f l = let r = raises p n (f ∷ l) in down_same (path_ssf p f l) (status p n (f ∷ l)) r.ais r.ltc r.oci r.lck
