-- Every second is reported once, in order, and as the calls alone say it. Assumes nothing.
use Prim.Native.Nat.{ℕ, zero, suc, ◌+◌, ◌-◌, ◌≤◌, ◌<◌}
use mathlib.Core.Path.{◌≡◌, refl, sym, ap, ap₂, ◌∙◌, subst, subst⁻¹}
use mathlib.Core.Bool.{Bool, false, cond}
use mathlib.Core.List.{List, [], ◌∷◌, ◌++◌, map, append-nil, append_assoc, map-append}
use native.Mathlib.Omega.{arith}
use lib.Dec.{eqb, ltb}
use lib.ListN.{drop}
use borrow.Author.Tests.{lt-ltb, le-ltb, eq-eqb, ne_eqb}
use Rattle.settings.specs.Ranges.{SettingsIn}
use Rattle.settings.specs.declared.Settings.{Settings}
use Rattle.supervisor.specs.Supervisor.{fresh_of}
use Rattle.history.specs.Ledger.{marks as marks_among}
use Rattle.page.proofs.Back.{ap₃}
use Rattle.tandem.specs.Tandem.{fresh_tandem, marked_of}
use Rattle.tandem.specs.declared.Tandem.{Tandem}
use Rattle.watch.specs.Watch.{LevelCall, gives, records, frames, marks, tandem_by, tandem_after, AllTaken, events_among}
use Rattle.sheet.specs.Sheet.{reached}
use Rattle.late.specs.Late.{LateMarked, fresh_late, section_erred, levels_erred, voided, pending_of, next_report, late_marked}
use Rattle.late.specs.declared.Late.{Late}
use Rattle.reports.specs.Reports.{late_by, late_after, late_at, mark_tells, calls_tell, end_tells, plain_of, marks_in, before_mark, Next, not_yet, closes}
use Rattle.reports.specs.Reports.{report_of, second_at, up_to, EveryReported}
use Rattle.reports.proofs.Lists.{taken_parts, taken_join, late_append, tells_append, marks_append, marks_plain, MarkAt, mark_at, before_append, before_next}
use Rattle.reports.proofs.Figures.{seconds_is, closed_figures, voided_figures}
use Rattle.reports.proofs.Demand.{line_demand}
use Rattle.reports.proofs.Sums.{sum_bounds}

-- a mark that is accepted
mark_taken : (s : Late) → (marked_of s.tandem).refusal ≡ 0 → late_marked s ≡ record {
  refusal = 0;
  told = ltb 0 s.tandem.base.seconds;
  figures = next_report s;
  late = record { tandem = (marked_of s.tandem).tandem; pending = drop 1 (marked_of s.tandem).figures };
}
unfolding late_marked
mark_taken s e = rw (eq-eqb (marked_of s.tandem).refusal 0 e)

-- the supervisor beside the pending second is what it is without
same_after : (s : Late) (cs : List LevelCall) → AllTaken s.tandem cs → (late_after s cs).tandem ≡ tandem_after s.tandem cs
unfolding late_after late_by tandem_after tandem_by
same_after s [] a = refl
same_after s (gives n r names ∷ cs) a = same_after (late_by s (gives n r names)) cs a.1
same_after s (records n r names ∷ cs) a = same_after (late_by s (records n r names)) cs a.1
same_after s (frames f counts ∷ cs) a = same_after (late_by s (frames f counts)) cs a.1
same_after s (marks ∷ cs) a =
    let e : (late_marked s).late.tandem ≡ (marked_of s.tandem).tandem = ap (λ (x : LateMarked). x.late.tandem) (mark_taken s a.0) in
    same_after (late_marked s).late cs (subst⁻¹ (λ (t : Tandem). AllTaken t cs) e a.1) ∙ ap (λ (t : Tandem). tandem_after t cs) e

-- calls with no mark leave the pending second
no_mark : (s : Late) (cs : List LevelCall) → marks_in cs ≡ 0 → (late_after s cs).pending ≡ s.pending
unfolding late_after late_by events_among
no_mark s [] e = refl
no_mark s (gives n r names ∷ cs) e = no_mark (late_by s (gives n r names)) cs e
no_mark s (records n r names ∷ cs) e = no_mark (late_by s (records n r names)) cs e
no_mark s (frames f counts ∷ cs) e = no_mark (late_by s (frames f counts)) cs e
no_mark s (marks ∷ cs) e = absurd (omega (arith, e))

-- told where there is a closed second
told_or_not : (n : ℕ) (x y : List ℕ) → (1 ≤ n → x ≡ y) → cond (ltb 0 n) (x ∷ []) [] ≡ cond (eqb n 0) [] (y ∷ [])
told_or_not zero x y h = refl
told_or_not (suc n) x y h =
    rw (lt-ltb 0 (suc n) (omega arith), ne_eqb (suc n) 0 (λ e. omega (arith, e))) (ap (λ (z : List ℕ). z ∷ []) (h (omega arith)))

-- a number before the figures behind it
numbered : (p : Settings) (n : ℕ) (cs : List LevelCall) (next : Next) → n ≡ marks_among (plain_of cs) + 1
    → (n ∷ drop 1 (report_of p cs next)) ≡ report_of p cs next
unfolding report_of
numbered p n cs next e = ap (λ (m : ℕ). m ∷ drop 1 (report_of p cs next)) e

-- no closed second is behind the last
none_behind : (b : Bool) (x : Next) → b ≡ false → cond b x not_yet ≡ not_yet
none_behind b x e = rw e

module _ (p : Settings) (v : SettingsIn p) where
  abbrev start : Late
  start = fresh_late (fresh_tandem (fresh_of p))

  abbrev Taken : List LevelCall → Type 0
  Taken cs = AllTaken (fresh_tandem (fresh_of p)) cs

  same_is : (cs : List LevelCall) → Taken cs → (late_at p cs).tandem ≡ reached p cs
  same_is cs a = same_after start cs a

  seconds_are : (cs : List LevelCall) → Taken cs → (late_at p cs).tandem.base.seconds ≡ marks_in cs
  seconds_are cs a = ap (λ (t : Tandem). t.base.seconds) (same_is cs a) ∙ seconds_is p v cs a

  -- a second that is closed, and the calls before its mark
  module _ (i : ℕ) (cs : List LevelCall) (a : Taken cs) (low : 1 ≤ i) (high : i ≤ marks_in cs) where
    abbrev mark_i : MarkAt i cs
    mark_i = mark_at i cs low high

    parts : Taken (before_mark i cs) × AllTaken (reached p (before_mark i cs)) (marks ∷ mark_i.rest)
    parts =
        taken_parts (fresh_tandem (fresh_of p)) (before_mark i cs) (marks ∷ mark_i.rest) (subst (λ (x : List LevelCall). Taken x) mark_i.is a)

    number_is : i ≡ marks_among (plain_of (before_mark i cs)) + 1
    number_is = omega (arith, mark_i.number, marks_plain (before_mark i cs))

  -- the second closed last is pending
  module _ (cs : List LevelCall) (a : Taken cs) (some : 1 ≤ marks_in cs) where
    abbrev before : List LevelCall
    before = before_mark (marks_in cs) cs

    abbrev at : MarkAt (marks_in cs) cs
    at = mark_at (marks_in cs) cs some (omega arith)

    both : Taken before × AllTaken (reached p before) (marks ∷ at.rest)
    both = parts (marks_in cs) cs a some (omega arith)

    pending_is : (late_at p cs).pending ≡ drop 1 (report_of p before not_yet)
    unfolding late_after late_by events_among
    pending_is =
        let s : Late = late_at p before in
        let same : s.tandem ≡ reached p before = same_is before both.0 in
        let taken : (marked_of s.tandem).refusal ≡ 0 = ap (λ (t : Tandem). (marked_of t).refusal) same ∙ both.1.0 in
        let number : marks_in cs ≡ marks_in before + marks_in (marks ∷ at.rest) =
        ap (λ (x : List LevelCall). marks_in x) at.is ∙ marks_append before (marks ∷ at.rest) in
        let none : marks_in at.rest ≡ 0 = omega (arith, at.number, number) in
        ap (λ (x : List LevelCall). (late_at p x).pending) at.is
        ∙ ap (λ (x : Late). x.pending) (late_append start before (marks ∷ at.rest))
        ∙ no_mark (late_marked s).late at.rest none
        ∙ ap (λ (x : LateMarked). x.late.pending) (mark_taken s taken)
        ∙ ap (λ (t : Tandem). drop 1 (marked_of t).figures) same
        ∙ ap (drop 1) (closed_figures p v before both.0 both.1.0)

    -- as it stands, and as the next mark voids it
    held_is : ((late_at p cs).tandem.base.seconds ∷ (late_at p cs).pending) ≡ report_of p before not_yet
    held_is =
        ap₂ (λ (n : ℕ) (l : List ℕ). n ∷ l) (seconds_are cs a) pending_is
        ∙ numbered p (marks_in cs) before not_yet (number_is (marks_in cs) cs a some (omega arith))

    told_is : next_report (late_at p cs) ≡ report_of p before (closes cs)
    told_is =
        let r : Tandem → List ℕ → List ℕ = λ u l. u.base.seconds ∷ voided (section_erred u) (levels_erred u) l in
        ap₂ r (same_is cs a) pending_is
        ∙ ap₂ (λ (n : ℕ) (l : List ℕ). n ∷ l) (seconds_is p v cs a) (voided_figures p v cs a before (marks ∷ at.rest) at.is)
        ∙ numbered p (marks_in cs) before (closes cs) (number_is (marks_in cs) cs a some (omega arith))

  -- at the end
  last_is : (cs : List LevelCall) → Taken cs → end_tells (late_at p cs) ≡ cond (eqb (marks_in cs) 0) [] (second_at p cs (marks_in cs) ∷ [])
  unfolding pending_of
  last_is cs a =
      ap (λ (n : ℕ). cond (ltb 0 n) (((late_at p cs).tandem.base.seconds ∷ (late_at p cs).pending) ∷ []) []) (seconds_are cs a)
      ∙ told_or_not (marks_in cs) _ _ (λ some.
      held_is cs a some
      ∙ ap (report_of p (before_mark (marks_in cs) cs)) (sym (none_behind (ltb (marks_in cs) (marks_in cs)) _ (le-ltb (marks_in cs) (marks_in cs) (omega arith)))))

  -- at the mark behind the calls ds, whatever follows it
  module _ (cs ds more : List LevelCall) (is : cs ≡ ds ++ (marks ∷ more)) (a : Taken cs) where
    split : Taken ds × AllTaken (reached p ds) (marks ∷ more)
    split = taken_parts (fresh_tandem (fresh_of p)) ds (marks ∷ more) (subst (λ (x : List LevelCall). Taken x) is a)

    second_is : 1 ≤ marks_in ds → second_at p cs (marks_in ds) ≡ report_of p (before_mark (marks_in ds) ds) (closes ds)
    unfolding events_among
    second_is some =
        let m : ℕ = marks_in ds in
        let n : marks_in cs ≡ m + marks_in (marks ∷ more) = ap (λ (x : List LevelCall). marks_in x) is ∙ marks_append ds (marks ∷ more) in
        let b : before_mark m cs ≡ before_mark m ds = ap (before_mark m) is ∙ before_append m ds (marks ∷ more) some (omega arith) in
        let c : before_mark (m + 1) cs ≡ ds = ap (before_mark (m + 1)) is ∙ before_next (m + 1) ds more refl in
        let less : m < marks_in cs = omega (arith, n) in
        ap₃ (λ (x : Bool) (y z : List LevelCall). report_of p y (cond x (closes z) not_yet)) (lt-ltb m (marks_in cs) less) b c

    mark_tells_lem : mark_tells (late_at p ds) ≡ cond (eqb (marks_in ds) 0) [] (second_at p cs (marks_in ds) ∷ [])
    mark_tells_lem =
        let s : Late = late_at p ds in
        let taken : (marked_of s.tandem).refusal ≡ 0 = ap (λ (t : Tandem). (marked_of t).refusal) (same_is ds split.0) ∙ split.1.0 in
        ap (λ (x : LateMarked). cond x.told (x.figures ∷ []) []) (mark_taken s taken)
        ∙ ap (λ (n : ℕ). cond (ltb 0 n) (next_report s ∷ []) []) (seconds_are ds split.0)
        ∙ told_or_not (marks_in ds) _ _ (λ some. told_is ds split.0 some ∙ sym (second_is some))

  -- seconds 1 to n, and one more
  up_more : (cs : List LevelCall) (n : ℕ)
      → map (second_at p cs) (up_to (n - 1)) ++ cond (eqb n 0) [] (second_at p cs n ∷ []) ≡ map (second_at p cs) (up_to n)
  unfolding up_to
  up_more cs zero = refl
  up_more cs (suc n) =
      let less : suc n - 1 ≡ n = omega arith in
      rw (less, ne_eqb (suc n) 0 (λ e. omega (arith, e))) (sym (map-append (second_at p cs) (up_to n) (suc n ∷ [])))

  -- all that is told
  module _ (cs : List LevelCall) (a : Taken cs) where
    abbrev So : List LevelCall → Type 0
    So ds = calls_tell start ds ≡ map (second_at p cs) (up_to (marks_in ds - 1))

    -- a call that tells nothing, and a mark
    quiet : (ds : List LevelCall) (c : LevelCall) → calls_tell (late_at p ds) (c ∷ []) ≡ [] → marks_in (c ∷ []) ≡ 0 → So ds → So (ds ++ (c ∷ []))
    quiet ds c none unmarked e =
        let same : marks_in ds ≡ marks_in (ds ++ (c ∷ [])) = omega (arith, marks_append ds (c ∷ []), unmarked) in
        tells_append start ds (c ∷ [])
        ∙ ap₂ (λ (x y : List (List ℕ)). x ++ y) e none
        ∙ append-nil _
        ∙ ap (λ (m : ℕ). map (second_at p cs) (up_to (m - 1))) same

    one_more : (ds : List LevelCall) (c : LevelCall) (more : List LevelCall) → cs ≡ ds ++ (c ∷ more) → So ds → So (ds ++ (c ∷ []))
    unfolding calls_tell events_among
    one_more ds (gives n r names) more is e = quiet ds (gives n r names) refl refl e
    one_more ds (records n r names) more is e = quiet ds (records n r names) refl refl e
    one_more ds (frames f counts) more is e = quiet ds (frames f counts) refl refl e
    one_more ds marks more is e =
        let next : marks_in ds ≡ marks_in (ds ++ (marks ∷ [])) - 1 = omega (arith, marks_append ds (marks ∷ [])) in
        tells_append start ds (marks ∷ [])
        ∙ ap₂ (λ (x y : List (List ℕ)). x ++ y) e (append-nil (mark_tells (late_at p ds)) ∙ mark_tells_lem cs ds more is a)
        ∙ up_more cs (marks_in ds)
        ∙ ap (λ (m : ℕ). map (second_at p cs) (up_to m)) next

    all_from : (ds more : List LevelCall) → cs ≡ ds ++ more → So ds → So cs
    all_from ds [] is e = subst⁻¹ (λ (x : List LevelCall). So x) (is ∙ append-nil ds) e
    all_from ds (c ∷ more) is e =
        all_from (ds ++ (c ∷ [])) more (is ∙ sym (append_assoc ds (c ∷ []) more)) (one_more ds c more is e)

pub reported : EveryReported
unfolding calls_tell up_to events_among
reported p v cs a = record {
  same = same_is p v cs a;
  mark = λ e. mark_tells_lem p v (cs ++ (marks ∷ [])) cs [] refl (taken_join (fresh_tandem (fresh_of p)) cs (marks ∷ []) a (e, tt));
  last = last_is p v cs a;
  all =
      ap₂ (λ (x y : List (List ℕ)). x ++ y) (all_from p v cs a [] cs refl refl) (last_is p v cs a) ∙ up_more p v cs (marks_in cs);
  demand = λ i low high. line_demand p v (before_mark i cs) (parts p v i cs a low high).0 _;
  bounds = λ i low high. sum_bounds p (before_mark i cs) _;
}
