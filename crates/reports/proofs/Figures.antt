-- The figures of a second by the calls before its mark, as they are closed and as the second behind it voids them. Assumes nothing.
use Prim.Native.Nat.{ℕ, suc, ◌+◌, ◌≤◌, ◌<◌}
use mathlib.Core.Path.{◌≡◌, refl, sym, ap, ap₂, ◌∙◌, subst}
use mathlib.Core.Bool.{Bool, true, false, cond, ◌||◌}
use mathlib.Core.List.{List, [], ◌∷◌, ◌++◌, map}
use native.Mathlib.Omega.{arith}
use lib.ListN.{length, get_or, take, drop, replicate}
use lib.Seq.{take_at, drop_at}
use borrow.Author.Tests.{eq-eqb}
use Rattle.answer.specs.Bits.{flag}
use Rattle.second.specs.Second.{closed_of, figures_of}
use Rattle.settings.specs.Ranges.{SettingsIn}
use Rattle.settings.specs.declared.Options.{Options}
use Rattle.settings.specs.declared.Settings.{Settings}
use Rattle.supervisor.specs.Supervisor.{fresh_of, mark_of}
use Rattle.supervisor.specs.declared.Supervisor.{Supervisor}
use Rattle.history.proofs.Ledger.{mark_figures}
use Rattle.page.specs.Page as page
use Rattle.page.proofs.Back.{sup, AcceptedBack}
use Rattle.page.proofs.Seconds.{seconds_are, figures_are, iae_is as section_iae_lem, biae_is as section_biae_lem}
use Rattle.tandem.specs.Levels.{blank_level, five_of, level_figures, level_at}
use Rattle.tandem.specs.Tandem.{fresh_tandem, marked_of}
use Rattle.tandem.specs.declared.Level.{Level}
use Rattle.tandem.specs.declared.Tandem.{Tandem}
use Rattle.watch.specs.Watch.{LevelCall, AllTaken}
use Rattle.watch.proofs.Silent.{levels_silent, mark_refusal_lem}
use Rattle.watch.proofs.Alone.{at_number, own_figures}
use Rattle.sheet.specs.Sheet as sheet
use Rattle.sheet.specs.Sheet.{Provisioned, never, with, provisioned, reached}
use Rattle.sheet.proofs.Own.{Is}
use Rattle.sheet.proofs.Seconds.{iae_is, biae_is}
use Rattle.sheet.proofs.Sheet.{after_calls, level_second, level_other}
use Rattle.late.specs.Late.{section_erred, level_erred, levels_erred, void_five, void_levels, voided}
use Rattle.late.specs.declared.Erred.{Erred}
use Rattle.reports.specs.Reports.{history_of, plain_of, marks_in, Next, not_yet, closes, section_five, level_four, level_sum, group_by, groups_from, report_of}
use Rattle.reports.proofs.Lists.{marks_plain, provisioned_stays}

-- five figures for each level
pub five_long : (p : Settings) (n : ℕ) (w : Provisioned) (cs : List LevelCall) (next : Next) → length (group_by p n w cs next) ≡ 5
unfolding group_by
five_long p n never cs next = refl
five_long p n (with o) cs next = refl

-- voided once more
blocks_again : (own next : Bool) (m : ℕ) → cond next 0 (cond own 0 m) ≡ cond (own || next) 0 m
blocks_again true true m = refl
blocks_again true false m = refl
blocks_again false next m = refl

ds_again : (own next d : Bool) → cond next 0 (flag (cond own false d)) ≡ flag (cond (own || next) false d)
ds_again true true d = refl
ds_again true false d = refl
ds_again false true d = refl
ds_again false false d = refl

void_again : (near far : Bool) (e : Erred) (a b : ℕ) (c d : Bool) (s : ℕ)
    → void_five e (cond near 0 a ∷ cond far 0 b ∷ flag (cond near false c) ∷ flag (cond far false d) ∷ cond far 0 s ∷ [])
    ≡ (cond (near || e.iae) 0 a
    ∷ cond (far || (e.iae || e.biae)) 0 b
    ∷ flag (cond (near || e.iae) false c)
    ∷ flag (cond (far || (e.iae || e.biae)) false d)
    ∷ cond (far || (e.iae || e.biae)) 0 s
    ∷ [])
unfolding void_five
void_again near far e a b c d s =
    rw (blocks_again near e.iae a, blocks_again far (e.iae || e.biae) b, ds_again near e.iae c, ds_again far (e.iae || e.biae) d, blocks_again far (e.iae || e.biae) s)

zero_again : (x : Bool) → ◌≡◌ {A = ℕ} (cond x 0 0) 0
zero_again true = refl
zero_again false = refl

void_zeros : (e : Erred) → void_five e (replicate 5 0) ≡ replicate 5 0
unfolding void_five
void_zeros e = rw (zero_again e.iae, zero_again (e.iae || e.biae))

-- after accepted calls
module _ (p : Settings) (v : SettingsIn p) (cs : List LevelCall) (a : AllTaken (fresh_tandem (fresh_of p)) cs) where
  abbrev t : Tandem
  t = reached p cs

  level_one : Is p 1 (omega arith) (omega arith) t (provisioned 1 cs) (history_of cs)
  level_one = after_calls p cs a 1 (omega arith) (omega arith)

  pub base_is : t.base ≡ sup p (plain_of cs)
  base_is = level_one.base

  pub accepted_is : AcceptedBack p (plain_of cs)
  accepted_is = level_one.accepted

  pub seconds_is : t.base.seconds ≡ marks_in cs
  seconds_is = ap (λ (s : Supervisor). s.seconds) base_is ∙ seconds_are p (plain_of cs) ∙ marks_plain cs

  -- pIAE and pBIAE of the section
  section_erred_lem : section_erred t
      ≡ record { iae = page.discarded p (plain_of cs); biae = page.some (λ f l. page.dBIAE p (f ∷ l)) (plain_of cs) }
  section_erred_lem =
      ap₂ (λ (x y : Bool). record { iae = x; biae = y })
      (ap (λ (s : Supervisor). s.second.iae) base_is ∙ section_iae_lem p v (plain_of cs))
      (ap (λ (s : Supervisor). s.second.biae) base_is ∙ section_biae_lem p v (plain_of cs))

  -- and of level n, where it is provisioned
  level_erred_lem : (n : ℕ) → 1 ≤ n → n ≤ 6 → (o : Options) → provisioned n cs ≡ with o → level_erred (level_at t.levels n)
      ≡ record { iae = sheet.discarded p n o (history_of cs); biae = page.some (λ f l. sheet.dBIAE p n o (f ∷ l)) (plain_of cs) }
  level_erred_lem n low high o w =
      let i = subst (λ (x : Provisioned). Is p n low high t x (history_of cs)) w (after_calls p cs a n low high) in
      ap level_erred i.level
      ∙ ap₂ (λ (x y : Bool). record { iae = x; biae = y }) (iae_is p v n o i.ready (history_of cs)) (biae_is p v n o i.ready (history_of cs))

  -- as a mark closes them
  module _ (taken : (marked_of t).refusal ≡ 0) where
    level_five : (n : ℕ) → 1 ≤ n → n ≤ 6 → (w : Provisioned) → provisioned n cs ≡ w → five_of (level_at t.levels n) ≡ group_by p n w cs not_yet
    unfolding group_by five_of
    level_five n low high never e = ap five_of (level_other p cs a n low high e).blank
    level_five n low high (with o) e = sym (own_figures t n level_one.six.0 low high taken) ∙ (level_second p v cs a n low high o e).figures taken

    groups_are : (ls : List Level) (n : ℕ) → ((i : ℕ) → i < length ls → five_of (get_or ls i blank_level) ≡ group_by p (n + i) (provisioned (n + i) cs) cs not_yet)
        → level_figures ls ≡ groups_from (length ls) n p cs not_yet
    unfolding level_figures groups_from
    groups_are [] n h = refl
    groups_are (l ∷ ls) n h =
        let g : ℕ → List ℕ = λ m. group_by p m (provisioned m cs) cs not_yet in
        ap₂ (λ (x y : List ℕ). x ++ y) (h 0 (omega arith) ∙ ap g (omega arith))
        (groups_are ls (suc n) (λ i k. h (suc i) (omega (arith, k)) ∙ ap g (omega arith)))

    six_groups : level_figures t.levels ≡ groups_from 6 1 p cs not_yet
    six_groups =
        let six : length t.levels ≡ 6 = level_one.six.0 in
        groups_are t.levels 1
        (λ i k.
        let low : 1 ≤ 1 + i = omega arith in
        let high : 1 + i ≤ 6 = omega (arith, k, six) in
        ap five_of (sym (at_number t.levels (1 + i) low high ∙ ap (λ (m : ℕ). get_or t.levels m blank_level) (omega arith)))
        ∙ level_five (1 + i) low high (provisioned (1 + i) cs) refl)
        ∙ ap (λ (m : ℕ). groups_from m 1 p cs not_yet) six

    pub closed_figures : (marked_of t).figures ≡ report_of p cs not_yet
    unfolding marked_of report_of
    closed_figures =
        let e : (mark_of t.base).refusal ≡ 0 = sym (levels_silent t).mark.refusal ∙ taken in
        let f : (mark_of t.base).figures ≡ page.figures p (plain_of cs) =
        mark_figures t.base (sym (mark_refusal_lem t) ∙ taken)
        ∙ ap (λ (s : Supervisor). figures_of (s.seconds + 1) (closed_of s.second)) base_is
        ∙ figures_are p v (plain_of cs) accepted_is in
        rw (eq-eqb _ _ e) (ap₂ (λ (x y : List ℕ). x ++ y) f six_groups)

  -- as they void those of a second before it
  module _ (ds more : List LevelCall) (behind : cs ≡ ds ++ more) where
    void_level : (n : ℕ) → 1 ≤ n → n ≤ 6 → (w : Provisioned) → provisioned n ds ≡ w
        → void_five (level_erred (level_at t.levels n)) (group_by p n w ds not_yet) ≡ group_by p n w ds (closes cs)
    unfolding group_by
    void_level n low high never e = void_zeros (level_erred (level_at t.levels n))
    void_level n low high (with o) e =
        let given : provisioned n cs ≡ with o = ap (provisioned n) behind ∙ provisioned_stays n ds more o e in
        ap (λ (x : Erred). void_five x (level_four p n o ds not_yet ++ (level_sum p n o ds not_yet ∷ []))) (level_erred_lem n low high o given)
        ∙ void_again (sheet.discarded p n o (history_of ds)) (sheet.far_discarded p n o (history_of ds)) _ (page.yes (sheet.nears p n (history_of ds)))
        (page.tally (sheet.far p n) (plain_of ds)) (page.some (sheet.near_ds p n o) (plain_of ds)) (page.some (sheet.far_ds p n o) (plain_of ds))
        (page.total (sheet.violations p n) (plain_of ds))

    void_groups : (ls : List Level) (n : ℕ)
        → ((i : ℕ) → i < length ls
        → void_five (level_erred (get_or ls i blank_level)) (group_by p (n + i) (provisioned (n + i) ds) ds not_yet) ≡ group_by p (n + i) (provisioned (n + i) ds) ds (closes cs))
        → void_levels (map level_erred ls) (groups_from (length ls) n p ds not_yet) ≡ groups_from (length ls) n p ds (closes cs)
    unfolding void_levels groups_from
    void_groups [] n h = refl
    void_groups (l ∷ ls) n h =
        let g : ℕ → Next → List ℕ = λ m x. group_by p m (provisioned m ds) ds x in
        let rest : List ℕ = groups_from (length ls) (suc n) p ds not_yet in
        let z : n + 0 ≡ n = omega arith in
        let long : length (g n not_yet) ≡ 5 = five_long p n (provisioned n ds) ds not_yet in
        let first : void_five (level_erred l) (g n not_yet) ≡ g n (closes cs) =
        subst (λ (m : ℕ). void_five (level_erred l) (g m not_yet) ≡ g m (closes cs)) z (h 0 (omega arith)) in
        let others : void_levels (map level_erred ls) rest ≡ groups_from (length ls) (suc n) p ds (closes cs) =
        void_groups ls (suc n) (λ i k.
        let s : n + suc i ≡ suc n + i = omega arith in
        subst (λ (m : ℕ). void_five (level_erred (get_or ls i blank_level)) (g m not_yet) ≡ g m (closes cs)) s (h (suc i) (omega (arith, k)))) in
        ap₂ (λ (x y : List ℕ). void_five (level_erred l) x ++ void_levels (map level_erred ls) y) (take_at (g n not_yet) rest 5 long) (drop_at (g n not_yet) rest 5 long)
        ∙ ap₂ (λ (x y : List ℕ). x ++ y) first others

    six_void : void_levels (levels_erred t) (groups_from 6 1 p ds not_yet) ≡ groups_from 6 1 p ds (closes cs)
    six_void =
        let six : length t.levels ≡ 6 = level_one.six.0 in
        subst (λ (m : ℕ). void_levels (levels_erred t) (groups_from m 1 p ds not_yet) ≡ groups_from m 1 p ds (closes cs)) six
        (void_groups t.levels 1
        (λ i k.
        let low : 1 ≤ 1 + i = omega arith in
        let high : 1 + i ≤ 6 = omega (arith, k, six) in
        let at : level_at t.levels (1 + i) ≡ get_or t.levels i blank_level =
        at_number t.levels (1 + i) low high ∙ ap (λ (m : ℕ). get_or t.levels m blank_level) (omega arith) in
        subst (λ (l : Level). void_five (level_erred l) (group_by p (1 + i) (provisioned (1 + i) ds) ds not_yet) ≡ group_by p (1 + i) (provisioned (1 + i) ds) ds (closes cs)) at
        (void_level (1 + i) low high (provisioned (1 + i) ds) refl)))

    section_void : void_five (section_erred t) (section_five p ds not_yet) ≡ section_five p ds (closes cs)
    section_void =
        ap (λ (x : Erred). void_five x (section_five p ds not_yet)) section_erred_lem
        ∙ void_again (page.discarded p (plain_of ds)) (page.far_discarded p (plain_of ds)) _ (page.tally (page.section_near p) (plain_of ds))
        (page.tally (page.section_far p) (plain_of ds)) (page.some (page.section_near_ds p) (plain_of ds))
        (page.some (λ f l. page.section_bdi p (f ∷ l)) (plain_of ds)) (page.total (page.section_violations p) (plain_of ds))

    pub voided_figures : voided (section_erred t) (levels_erred t) (drop 1 (report_of p ds not_yet)) ≡ drop 1 (report_of p ds (closes cs))
    unfolding voided report_of
    voided_figures =
        let f : List ℕ = page.figures p (plain_of ds) in
        ap₂ (λ (x y : List ℕ). take 11 (drop 1 f) ++ (x ++ (drop 17 f ++ y))) section_void six_void
