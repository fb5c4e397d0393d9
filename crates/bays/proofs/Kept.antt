-- Every call, accepted or refused, keeps the numbers of a supervisor with levels in their ranges, and a fresh one has them there. Assumes nothing.
use Prim.Native.Nat.{ℕ, zero, suc, ◌-◌, ◌≤◌}
use mathlib.Core.Path.{◌≡◌, refl, sym, ◌∙◌}
use mathlib.Core.Bool.{Bool, true, false, cond, ◌&&◌}
use mathlib.Core.List.{List, [], ◌∷◌}
use native.Mathlib.Omega.{arith}
use lib.Dec.{leb, eqb, ltb}
use lib.ListN.{length, set, replicate, length-set}
use borrow.Author.Tests.{le-leb, leb-true, ltb-true, eqb-true, eqb-false}
use Rattle.answer.specs.Checks.{first_of}
use Rattle.answer.specs.Each.{each_from}
use Rattle.answer.proofs.Checks.{passed}
use Rattle.answer.proofs.Cond.{by_cond}
use Rattle.answer.proofs.Each.{each_length}
use Rattle.overhead.specs.Overhead.{field_of, level_field}
use Rattle.overhead.specs.declared.Field.{Field}
use Rattle.alignment.specs.declared.Multi.{Multi}
use Rattle.settings.specs.Ranges.{OptionsIn, SettingsIn}
use Rattle.settings.specs.Settings.{options_of}
use Rattle.settings.specs.declared.Request.{Request}
use Rattle.settings.specs.declared.Settings.{Settings}
use Rattle.settings.proofs.Ranges.{provisioned_in}
use Rattle.supervisor.specs.Supervisor.{Marked, Stepped, fresh_of, blank_options, step_refusal, step_of, mark_of}
use Rattle.supervisor.specs.declared.Supervisor.{Supervisor}
use Rattle.history.specs.History.{Frame}
use Rattle.history.specs.Ranges.{Ranged, IsBytes}
use Rattle.history.proofs.Ranges.{step_ranged, mark_ranged, fresh_ranged}
use Rattle.racks.proofs.Kept.{level_kept}
use Rattle.tandem.specs.Levels.{given_level, blank_level, stepped_level, marked_level, frame_rule, mark_rule, count_at, placed_at}
use Rattle.tandem.specs.Tandem.{TandemMarked, TandemStepped, Given, fresh_tandem, request_checks, request_refusal, place_checks, give_refusal, record_refusal, given_by, frame_checks, frame_refusal, framed_of, marked_of}
use Rattle.tandem.specs.declared.Level.{Level}
use Rattle.tandem.specs.declared.Tandem.{Tandem}
use Rattle.tandem.proofs.Refusals.{first_after, request_same}
use Rattle.watch.specs.Watch.{LevelCall, gives, records, frames, marks, framed_at, tandem_by, tandem_after}
use Rattle.bays.specs.Ranges.{OneIn, AllIn, TandemIn, CallBytes, TandemKept}

-- The levels, by their list.

all_each : (rule : ℕ → Level → Level) (n : ℕ) (ls : List Level) → ((m : ℕ) (l : Level) → OneIn l → OneIn (rule m l)) → AllIn ls → AllIn (each_from rule n ls)
all_each rule n [] one a = tt
all_each rule n (l ∷ ls) one a = (one n l a.0, all_each rule (suc n) ls one a.1)

all_set : (ls : List Level) (i : ℕ) (l : Level) → OneIn l → AllIn ls → AllIn (set ls i l)
all_set [] i l x a = tt
all_set (y ∷ ls) zero l x a = (x, a.1)
all_set (y ∷ ls) (suc i) l x a = (a.0, all_set ls i l x a.1)

all_same : (n : ℕ) (l : Level) → OneIn l → AllIn (replicate n l)
all_same zero l x = tt
all_same (suc n) l x = (x, all_same n l x)

-- A level: a STAT has three bits, whichever its number.

field_seven : (tti status : ℕ) → (field_of tti status).stat ≤ 7
unfolding field_of
field_seven tti status = omega arith

stat_seven : (o : List ℕ) (n : ℕ) → (level_field o n).stat ≤ 7
unfolding level_field
stat_seven o n =
    let P : Field → Type 0 = λ f. f.stat ≤ 7 in
    by_cond P (eqb n 1) (λ _. field_seven _ _)
    (λ _. by_cond P (eqb n 2) (λ _. field_seven _ _)
    (λ _. by_cond P (eqb n 3) (λ _. field_seven _ _)
    (λ _. by_cond P (eqb n 4) (λ _. field_seven _ _)
    (λ _. by_cond P (eqb n 5) (λ _. field_seven _ _)
    (λ _. by_cond P (eqb n 6) (λ _. field_seven _ _) (λ _. field_seven 0 0))))))

one_framed : (ssf : Bool) (m : Multi) (o counts : List ℕ) (n : ℕ) (l : Level) → OneIn l → OneIn (frame_rule ssf m o counts n l)
unfolding stepped_level
one_framed ssf m o counts n l a =
    by_cond OneIn l.given
    (λ _. (level_kept l.options).framed l.state l.second a ssf m (level_field o n) (count_at counts n) (stat_seven o n))
    (λ _. a)

one_marked : (n : ℕ) (l : Level) → OneIn l → OneIn (mark_rule n l)
unfolding marked_level
one_marked n l a = by_cond OneIn l.given (λ _. (level_kept l.options).marked l.state l.second a) (λ _. a)

-- A provisioning: what is kept of a request that is accepted is in its ranges.

both_none : (a b : ℕ) → cond (eqb a 0) b a ≡ 0 → (a ≡ 0) × (b ≡ 0)
both_none a b e = by (eqb a 0) refl
  where
    by : (t : Bool) → eqb a 0 ≡ t → (a ≡ 0) × (b ≡ 0)
    by true t = (eqb-true a 0 t, rw t at e)
    by false t = let z : a ≡ 0 = rw t at e in absurd (eqb-false a 0 t z)

module _ (t : Tandem) (i : TandemIn t) (n : ℕ) (r : Request) (names : List ℕ) where
  abbrev k : ℕ
  k = t.base.settings.k

  request_in : request_refusal k r names ≡ 0 → OptionsIn (options_of r names)
  request_in e =
      let s = i.base.settings in
      let three : (leb 1 k && leb k 3) ≡ true = rw (le-leb 1 k s.k_least, le-leb k 3 s.k) in
      (provisioned_in k r r names names (request_same k r names three ∙ e)).section

  give_in_lem : give_refusal t n r names ≡ 0 → OptionsIn (options_of r names)
  unfolding give_refusal request_refusal
  give_in_lem e =
      request_in (both_none (first_of (request_checks k r names)) (first_of (place_checks t n)) (sym (first_after 10 (request_checks k r names) (place_checks t n) refl) ∙ e)).0

  record_in : record_refusal t n r names ≡ 0 → OptionsIn (options_of r names)
  unfolding record_refusal request_refusal
  record_in e =
      request_in (both_none (first_of (place_checks t n)) (first_of (request_checks k r names)) (sym (first_after 18 (place_checks t n) (request_checks k r names) refl) ∙ e)).1

  placed_in : OptionsIn (options_of r names) → TandemIn (record { base = t.base; flags = t.flags; levels = placed_at t.levels n (given_level (options_of r names)) })
  placed_in o =
      let p = options_of r names in
      let P : List Level → Type 0 = λ ls. (length ls ≡ 6) × AllIn ls in
      let q : P (placed_at t.levels n (given_level p)) =
      by_cond P (leb 1 n)
      (λ _. by_cond P (leb n 6)
      (λ _. (simp length-set i.six, all_set t.levels (n - 1) (given_level p) ((level_kept p).fresh o) i.levels))
      (λ _. (i.six, i.levels)))
      (λ _. (i.six, i.levels)) in
      record { base = i.base; flags = i.flags; six = q.0; levels = q.1 }

  given_in_lem : (refusal : ℕ) → (refusal ≡ 0 → OptionsIn (options_of r names)) → TandemIn (given_by refusal t n r names).tandem
  unfolding given_by
  given_in_lem refusal o =
      by_cond (λ (x : Given). TandemIn x.tandem) (eqb refusal 0) (λ e. placed_in (o (eqb-true refusal 0 e))) (λ _. i)

-- A frame and a mark.

step_in : (s : Supervisor) (o : List ℕ) (flags sm pm : ℕ) → IsBytes o → Ranged s → Ranged (step_of s o flags sm pm).supervisor
unfolding step_of
step_in s o flags sm pm b i =
    by_cond (λ (x : Stepped). Ranged x.supervisor) (eqb (step_refusal s o flags sm pm) 0) (λ _. step_ranged s o flags sm pm b i) (λ _. i)

mark_in : (s : Supervisor) → Ranged s → Ranged (mark_of s).supervisor
unfolding mark_of
mark_in s i =
    by_cond (λ (x : Marked). Ranged x.supervisor) (ltb s.seconds 4294967295) (λ e. mark_ranged s (ltb-true _ _ e) i) (λ _. i)

framed_in_lem : (t : Tandem) → TandemIn t → (f : Frame) (counts : List ℕ) → IsBytes f.overhead → TandemIn (framed_at t f counts).tandem
unfolding framed_of frame_refusal
framed_in_lem t i f counts b =
    by_cond (λ (x : TandemStepped). TandemIn x.tandem) (eqb (first_of (frame_checks t f.overhead f.flags f.sm f.pm counts)) 0)
    (λ e. record {
      base = step_in t.base f.overhead f.flags f.sm f.pm b i.base;
      flags = leb-true _ _ (passed 4 (frame_checks t f.overhead f.flags f.sm f.pm counts) refl (eqb-true _ _ e)).1.0;
      six = each_length (frame_rule _ _ f.overhead counts) 1 t.levels ∙ i.six;
      levels = all_each (frame_rule _ _ f.overhead counts) 1 t.levels (one_framed _ _ f.overhead counts) i.levels;
    })
    (λ _. i)

marked_in_lem : (t : Tandem) → TandemIn t → TandemIn (marked_of t).tandem
unfolding marked_of
marked_in_lem t i =
    by_cond (λ (x : TandemMarked). TandemIn x.tandem) (eqb (mark_of t.base).refusal 0)
    (λ _. record {
      base = mark_in t.base i.base;
      flags = i.flags;
      six = each_length mark_rule 1 t.levels ∙ i.six;
      levels = all_each mark_rule 1 t.levels one_marked i.levels;
    })
    (λ _. i)

-- Fresh, and every list of calls.

blank_in : OptionsIn blank_options
blank_in = record { thr_least = omega arith; thr = omega arith; degm_least = omega arith; degm = omega arith; mode = omega arith; names = refl }

fresh_in : (p : Settings) → SettingsIn p → TandemIn (fresh_tandem (fresh_of p))
fresh_in p i = record {
  base = fresh_ranged p i;
  flags = omega arith;
  six = refl;
  levels = all_same 6 blank_level ((level_kept blank_options).fresh blank_in);
}

handed_in : (cs : List LevelCall) (t : Tandem) → TandemIn t → CallBytes cs → TandemIn (tandem_after t cs)
unfolding tandem_after tandem_by
handed_in [] t i b = i
handed_in (gives n r names ∷ cs) t i b = handed_in cs _ (given_in_lem t i n r names _ (give_in_lem t i n r names)) b
handed_in (records n r names ∷ cs) t i b = handed_in cs _ (given_in_lem t i n r names _ (record_in t i n r names)) b
handed_in (frames f counts ∷ cs) t i b = handed_in cs _ (framed_in_lem t i f counts b.0) b.1
handed_in (marks ∷ cs) t i b = handed_in cs _ (marked_in_lem t i) b

pub tandem_kept : TandemKept
tandem_kept = record {
  fresh = fresh_in;
  given = λ t i n r names. given_in_lem t i n r names _ (give_in_lem t i n r names);
  recorded = λ t i n r names. given_in_lem t i n r names _ (record_in t i n r names);
  framed = framed_in_lem;
  marked = marked_in_lem;
  always = λ p i cs b. handed_in cs (fresh_tandem (fresh_of p)) (fresh_in p i) b;
}
