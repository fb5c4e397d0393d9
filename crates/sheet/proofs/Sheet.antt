-- The sheet: after every list of accepted calls every answer about a level is the sheet's. Assumes nothing.
use Prim.Native.Nat.{ℕ, ◌≤◌}
use mathlib.Core.Path.{◌≡◌, refl, ap, ◌∙◌, subst}
use mathlib.Core.Bool.{Bool, true, false, not, ◌&&◌, ◌||◌}
use mathlib.Core.List.{List, [], ◌∷◌, reverse}
use native.Mathlib.Omega.{arith}
use Rattle.layer.specs.Layer.{tim_of}
use Rattle.settings.specs.Ranges.{SettingsIn}
use Rattle.settings.specs.declared.Options.{Options}
use Rattle.settings.specs.declared.Settings.{Settings}
use Rattle.frame.specs.Layers.{standing_of, section_stands}
use Rattle.level.specs.Level.{stands_by, level_actions, level_causes}
use Rattle.level.specs.declared.LevelStands.{LevelStands}
use Rattle.level.specs.declared.LevelActions.{LevelActions}
use Rattle.level.specs.declared.LevelCauses.{LevelCauses}
use Rattle.level.proofs.Clause.{clause}
use Rattle.supervisor.specs.Supervisor.{fresh_of, frame_of, stands_after, next_second}
use Rattle.supervisor.specs.declared.Supervisor.{Supervisor}
use Rattle.history.specs.History.{event_of}
use Rattle.tandem.specs.Levels.{five_of}
use Rattle.tandem.specs.Tandem.{fresh_tandem, ssf_now, level_shown, level_report, level_traced}
use Rattle.tandem.specs.declared.Level.{Level}
use Rattle.tandem.specs.declared.Tandem.{Tandem}
use Rattle.watch.specs.Watch.{LevelCall, AllTaken}
use Rattle.watch.proofs.Alone.{own_figures}
use Rattle.watch.proofs.Blank.{unmonitored, none_yet_lem}
use Rattle.page.specs.Page.{each, frames_back}
use Rattle.page.proofs.Back.{sup, ap₃}
use Rattle.page.proofs.Sections.{path_ssf_is}
use Rattle.page.proofs.Degraded.{deg_on}
use Rattle.page.proofs.Page.{filter_stands}
use Rattle.sheet.specs.Sheet.{LevelEvent, counted, closed, plainly, frames_in, ssf_at, bdi_bit, biae_bit, bads, stands, actions, causes, traced}
use Rattle.sheet.specs.Sheet.{events_of, provisioned, with, never, reached, EachLevel, LevelPage, LevelFaults, LevelFive, EachOther}
use Rattle.sheet.specs.Sheet.{EachOn}
use Rattle.sheet.proofs.Own.{last_flags, own, own_given, own_options, Is, is_fresh, is_after}
use Rattle.sheet.proofs.Defects.{raises, trace_stands, stands_are}
use Rattle.sheet.proofs.Seconds.{five_is, deg_is}

-- path SSF as it stands
ssf_now_lem : (p : Settings) → SettingsIn p → (o : Options) (h : List LevelEvent) → ssf_now (sup p (plainly h)) (last_flags h) ≡ ssf_at p (frames_in h)
unfolding ssf_now level_shown stands_by frames_back event_of frame_of stands_after next_second standing_of section_stands tim_of
ssf_now_lem p v o [] = ap (λ (d : LevelStands). d.ssf) (none_yet_lem p o)
ssf_now_lem p v o (counted f counts ∷ h) = path_ssf_is p v (plainly h) f
ssf_now_lem p v o (closed ∷ h) = ssf_now_lem p v o h

-- actions and causes, by the clause
by_four : (P : Bool → Bool → Bool → Bool → Type 0) {a b c d a' b' c' d' : Bool} → a ≡ a' → b ≡ b' → c ≡ c' → d ≡ d' → P a b c d → P a' b' c' d'
by_four P {b} {c} {d} {a'} {b'} {c'} p q r s x =
    subst (λ (z : Bool). P a' b' c' z) s (subst (λ (z : Bool). P a' b' z d) r (subst (λ (z : Bool). P a' z c d) q (subst (λ (z : Bool). P z b c d) p x)))

actions_same : {a b c d : Bool} → a ≡ b → c ≡ d → ◌≡◌ {A = LevelActions} (record { tsf = a; tsd = c }) (record { tsf = b; tsd = d })
actions_same p q = cc

causes_same : {a a' b b' c c' d d' e e' f f' g g' : Bool} → a ≡ a' → b ≡ b' → c ≡ c' → d ≡ d' → e ≡ e' → f ≡ f' → g ≡ g'
    → ◌≡◌ {A = LevelCauses} (record { ssf = a; ltc = b; oci = c; lck = d; tim = e; deg = f; bdi = g })
    (record { ssf = a'; ltc = b'; oci = c'; lck = d'; tim = e'; deg = f'; bdi = g' })
causes_same p q r s t u v = cc

module _ (p : Settings) (n : ℕ) (o : Options) (h : List LevelEvent) where
  actions_are : level_actions (stands p n o h) ≡ actions p n o h
  unfolding stands actions
  actions_are =
      let d : LevelStands = stands p n o h in
      let r = raises p n (frames_in h) in
      by_four (λ ais ltc oci lck. level_actions d ≡ record { tsf = d.ssf || (ais || ltc || oci || lck || (d.tim && not d.disabled)); tsd = d.deg })
      r.ais r.ltc r.oci r.lck (actions_same (clause d).tsf (clause d).tsd)

  causes_are : level_causes (stands p n o h) ≡ causes p n o h
  unfolding stands causes
  causes_are =
      let d : LevelStands = stands p n o h in
      let r = raises p n (frames_in h) in
      let k = clause d in
      by_four
      (λ ais ltc oci lck. level_causes d ≡ record {
        ssf = d.ssf || ais;
        ltc = ltc && not d.ssf;
        oci = oci && not d.ssf;
        lck = lck && not d.ssf;
        tim = d.tim && not d.ssf && not ais && not ltc && not oci && not lck;
        deg = d.deg && not d.ssf && not ais && not ltc && not oci && not lck && not (d.tim && not d.disabled);
        bdi = d.bdi && not d.ssf && not ais && not ltc && not oci && not lck && not (d.tim && not d.disabled);
      })
      r.ais r.ltc r.oci r.lck (causes_same k.ssf k.ltc k.oci k.lck k.tim k.deg k.bdi)

-- the supervisor after the calls
pub after_calls : (p : Settings) (cs : List LevelCall) → AllTaken (fresh_tandem (fresh_of p)) cs → (n : ℕ) (low : 1 ≤ n) (high : n ≤ 6)
    → Is p n low high (reached p cs) (provisioned n cs) (reverse (events_of cs))
after_calls p cs a n low high = is_after p n low high (fresh_tandem (fresh_of p)) never [] cs (is_fresh p n low high) a

-- a level that is provisioned
module _ (p : Settings) (v : SettingsIn p) (n : ℕ) (low : 1 ≤ n) (high : n ≤ 6) (o : Options) (t : Tandem) (h : List LevelEvent)
    (i : Is p n low high t (with o) h) where
  stood_is : (level_report t n).stands ≡ stands p n o h
  unfolding level_report level_shown stands
  stood_is =
      ap₃ (λ (l : Level) (s : Supervisor) (flags : ℕ). level_shown l (ssf_now s flags)) i.level i.base i.flags
      ∙ rw (own_given p n o h, own_options p n o h) (stands_are p v n o i.ready h (ssf_now_lem p v o h) (deg_is p v n o i.ready h i.accepted))

  given_is : (level_report t n).given ≡ true
  unfolding level_report
  given_is = ap (λ (l : Level). l.given) i.level ∙ own_given p n o h

  read_is : level_traced t n ≡ traced p n o h
  unfolding level_traced
  read_is = by (own p n o h).state.layer.known refl
    where
      by : (b : Bool) → (own p n o h).state.layer.known ≡ b → level_traced t n ≡ traced p n o h
      by true e = rw (i.level, own_given p n o h, ← trace_stands p v n o i.ready h, e)
      by false e = rw (i.level, own_given p n o h, ← trace_stands p v n o i.ready h, e)

  page_is : LevelPage p n o t h
  page_is = record { given = given_is; stood = stood_is; read = read_is }

  faults_are : LevelFaults p n o t h
  unfolding level_report
  faults_are = record { acted = ap level_actions stood_is ∙ actions_are p n o h; caused = ap level_causes stood_is ∙ causes_are p n o h }

  figures_are : LevelFive p n o t h
  figures_are = record {
    figures = λ e. own_figures t n i.six.0 low high e ∙ ap five_of i.level ∙ five_is p v n o i.ready h i.accepted;
  }

-- each level
module _ (Said : Settings → ℕ → Options → Tandem → List LevelEvent → Type 0)
    (say : (p : Settings) → SettingsIn p → (n : ℕ) (low : 1 ≤ n) (high : n ≤ 6) (o : Options) (t : Tandem) (h : List LevelEvent) → Is p n low high t (with o) h → Said p n o t h) where
  each_level : EachLevel Said
  each_level p v cs a n low high o w =
      say p v n low high o (reached p cs) (reverse (events_of cs))
      (subst (λ x. Is p n low high (reached p cs) x (reverse (events_of cs))) w (after_calls p cs a n low high))

pub level_page : EachLevel LevelPage
level_page = each_level LevelPage page_is

pub level_causes_lem : EachLevel LevelFaults
level_causes_lem = each_level LevelFaults faults_are

pub level_second : EachLevel LevelFive
level_second = each_level LevelFive figures_are

-- and a level that is not
pub level_other : EachOther
level_other p cs a n low high w =
    let i = subst (λ x. Is p n low high (reached p cs) x (reverse (events_of cs))) w (after_calls p cs a n low high) in
    (unmonitored (fresh_of p) cs n low high).nothing (ap (λ (l : Level). l.given) i.level)

-- what stands, by where it began and ended
pub level_on : EachOn
level_on p n o i l h = record {
  bdi_is = filter_stands 4 (each (bdi_bit p n) l);
  biae_is = filter_stands 2 (each (biae_bit p n o) l);
  deg_is = deg_on o.degm (omega (arith, i.degm_least)) (bads p n o h);
}
