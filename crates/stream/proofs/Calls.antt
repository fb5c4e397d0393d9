-- The refusals of a supervisor with levels, and what an accepted call is to the number of levels. Assumes nothing.
use Prim.Native.Nat.{ℕ, zero, suc, ◌+◌, ◌-◌, ◌≤◌, ◌<◌}
use mathlib.Core.Path.{◌≡◌, refl, ◌∙◌, ap, sym}
use mathlib.Core.Bool.{Bool, true, false, cond, not}
use mathlib.Core.List.{List, [], ◌∷◌, ◌++◌}
use native.Mathlib.Omega.{arith}
use lib.Dec.{eqb, leb, ltb}
use lib.ListN.{length, get_or, set, length-set}
use borrow.Author.Tests.{eqb-true, eq-eqb, leb-true, le-leb}
use Rattle.answer.specs.Each.{each_from}
use Rattle.answer.proofs.Checks.{passed, first_low}
use Rattle.answer.proofs.Cond.{cond_under, by_cond, and_left, and_right}
use Rattle.answer.proofs.Each.{each_length}
use Rattle.overhead.specs.declared.Field.{Field}
use Rattle.overhead.specs.Overhead.{level_field}
use Rattle.alignment.specs.declared.Multi.{Multi}
use Rattle.causes.specs.Causes.{path_ssf}
use Rattle.settings.specs.Settings.{options_of}
use Rattle.settings.specs.declared.Request.{Request}
use Rattle.supervisor.specs.Supervisor.{mark_of}
use Rattle.history.specs.History.{Frame, stands_at, refusal_of as plain_refusal}
use Rattle.tandem.specs.Levels.{given_level, blank_level, stepped_level, marked_level, count_at, frame_rule, mark_rule, is_level, level_at, free_at, placed_at}
use Rattle.tandem.specs.Tandem.{begun, request_checks, place_checks, record_refusal, given_by, recorded_of, frame_checks, frame_refusal, framed_of, marked_of}
use Rattle.tandem.specs.declared.Level.{Level}
use Rattle.tandem.specs.declared.Tandem.{Tandem}
use Rattle.tandem.specs.Tandem.{Given}
use Rattle.tandem.specs.Tandem.{TandemStepped}
use Rattle.tandem.specs.Tandem.{TandemMarked}
use Rattle.watch.specs.Watch.{refusal_at, framed_at, multi_at}
use Rattle.watch.proofs.Silent.{mark_refusal_lem}
use Rattle.watch.proofs.Alone.{at_number, frame_accepted}
use Rattle.stream.specs.Counts.{given_among}

-- the refusal of each call is that of its tests
pub zero_or : (n : ℕ) (t : Bool) → eqb n 0 ≡ t → cond t 0 n ≡ n
zero_or n true e = sym (eqb-true n 0 e)
zero_or n false e = refl

pub frame_says : (t : Tandem) (f : Frame) (counts : List ℕ) → (framed_at t f counts).refusal ≡ refusal_at t f counts
unfolding framed_of
frame_says t f counts =
    cond_under (λ (z : TandemStepped). z.refusal) (eqb (refusal_at t f counts) 0) _ _ ∙ zero_or (refusal_at t f counts) (eqb (refusal_at t f counts) 0) refl

pub given_says : (refusal : ℕ) (t : Tandem) (n : ℕ) (r : Request) (names : List ℕ) → (given_by refusal t n r names).refusal ≡ refusal
unfolding given_by
given_says refusal t n r names = cond_under (λ (z : Given). z.refusal) (eqb refusal 0) _ _ ∙ zero_or refusal (eqb refusal 0) refl

-- none of them is 14
pub frame_uncut : (t : Tandem) (f : Frame) (counts : List ℕ) → (framed_at t f counts).refusal ≡ 14 → ⊥
unfolding frame_refusal
frame_uncut t f counts e =
    let low = first_low 4 (frame_checks t f.overhead f.flags f.sm f.pm counts) refl in
    omega (arith, low, sym (frame_says t f counts) ∙ e)

pub mark_uncut : (t : Tandem) → (marked_of t).refusal ≡ 14 → ⊥
unfolding plain_refusal
mark_uncut t e =
    by_cond (λ (m : ℕ). m ≡ 14 → ⊥) (ltb t.base.seconds 4294967295) (λ _ z. omega (arith, z)) (λ _ z. omega (arith, z))
    (sym (mark_refusal_lem t) ∙ e)

pub record_uncut : (t : Tandem) (n : ℕ) (r : Request) (names : List ℕ) → (given_by (record_refusal t n r names) t n r names).refusal ≡ 14 → ⊥
unfolding record_refusal
record_uncut t n r names e =
    by_cond (λ (m : ℕ). m ≡ 14 → ⊥) (not (begun t.base))
    (λ _. by_cond (λ (m : ℕ). m ≡ 14 → ⊥) (free_at t.levels n)
    (λ _ z. omega (arith, z, first_low 10 (request_checks t.base.settings.k r names) refl))
    (λ _ z. omega (arith, z)))
    (λ _ z. omega (arith, z))
    (sym (given_says (record_refusal t n r names) t n r names) ∙ e)

-- how many levels are provisioned: as many after a frame and a mark, one more after a provisioning
given_each : (rule : ℕ → Level → Level) (n : ℕ) (ls : List Level) → ((m : ℕ) (l : Level) → (rule m l).given ≡ l.given)
    → given_among (each_from rule n ls) ≡ given_among ls
given_each rule n [] keeps = refl
given_each rule n (l ∷ ls) keeps = rw (keeps n l, given_each rule (suc n) ls keeps)

pub stepped_given : (l : Level) (ssf : Bool) (m : Multi) (f : Field) (violations : ℕ) → (stepped_level l ssf m f violations).given ≡ l.given
unfolding stepped_level
stepped_given l ssf m f violations = by_cond (λ (x : Level). x.given ≡ l.given) l.given (λ e. sym e) (λ _. refl)

pub marked_given : (l : Level) → (marked_level l).given ≡ l.given
unfolding marked_level
marked_given l = by_cond (λ (x : Level). x.given ≡ l.given) l.given (λ e. sym e) (λ _. refl)

given_set : (ls : List Level) (i : ℕ) (l : Level) → i < length ls → (get_or ls i blank_level).given ≡ false → l.given ≡ true
    → given_among (set ls i l) ≡ given_among ls + 1
given_set [] i l h none one = absurd (omega arith)
given_set (x ∷ ls) zero l h none one = rw (none, one) (omega arith)
given_set (x ∷ ls) (suc i) l h none one = omega (arith, given_set ls i l (omega arith) none one)

pub few_given : (ls : List Level) → given_among ls ≤ length ls
few_given [] = omega arith
few_given (l ∷ ls) =
    let h : cond l.given 1 0 ≤ 1 = by_cond (λ (n : ℕ). n ≤ 1) l.given (λ _. omega arith) (λ _. omega arith) in
    omega (arith, h, few_given ls)

-- six levels after each call, and how many are provisioned
pub record Levels (t u : Tandem) (more : ℕ) : Type 0 where
  pub six : length u.levels ≡ length t.levels
  pub given : given_among u.levels ≡ given_among t.levels + more

pub frame_levels : (t : Tandem) (f : Frame) (counts : List ℕ) → refusal_at t f counts ≡ 0 → Levels t (framed_at t f counts).tandem 0
frame_levels t f counts e =
    let ssf : Bool = path_ssf (stands_at t.base f) in
    let rule = frame_rule ssf (multi_at t.base f) f.overhead counts in
    rw (frame_accepted t f counts e) (record {
      six = each_length rule 1 t.levels;
      given = omega (arith, given_each rule 1 t.levels (λ m l. stepped_given l ssf (multi_at t.base f) (level_field f.overhead m) (count_at counts m)));
    })

pub mark_levels : (t : Tandem) → Levels t (marked_of t).tandem 0
unfolding marked_of
mark_levels t =
    by_cond (λ (x : TandemMarked). Levels t x.tandem 0) (eqb (mark_of t.base).refusal 0)
    (λ _. record { six = each_length mark_rule 1 t.levels; given = omega (arith, given_each mark_rule 1 t.levels (λ m l. marked_given l)) })
    (λ _. record { six = refl; given = omega arith })

-- a level that is free, provisioned
given_placed : (ls : List Level) (n : ℕ) (l : Level) → length ls ≡ 6 → free_at ls n ≡ true → l.given ≡ true → given_among (placed_at ls n l) ≡ given_among ls + 1
given_placed ls n l six free one =
    let a = and_left (is_level n) (not (level_at ls n).given) free in
    let low : 1 ≤ n = leb-true 1 n (and_left (leb 1 n) (leb n 6) a) in
    let high : n ≤ 6 = leb-true n 6 (and_right (leb 1 n) (leb n 6) a) in
    let at = at_number ls n low high in
    let none = ap (λ (x : Level). not x.given) (sym at) ∙ and_right (is_level n) (not (level_at ls n).given) free in
    rw (le-leb 1 n low, le-leb n 6 high) (given_set ls (n - 1) l (omega arith) (not_given (get_or ls (n - 1) blank_level).given none) one)
  where
    not_given : (b : Bool) → not b ≡ true → b ≡ false
    not_given true e = sym e
    not_given false e = refl

pub record_levels : (t : Tandem) (n : ℕ) (r : Request) (names : List ℕ) → length t.levels ≡ 6 → record_refusal t n r names ≡ 0
    → Levels t (recorded_of t n r names).tandem 1
unfolding given_by record_refusal
record_levels t n r names six e =
    let p = passed 18 (place_checks t n ++ request_checks t.base.settings.k r names) refl e in
    let l : Level = given_level (options_of r names) in
    rw (eq-eqb (record_refusal t n r names) 0 e) (record { six = placed_length t.levels n l; given = given_placed t.levels n l six p.1.0 refl })
  where
    placed_length : (ls : List Level) (m : ℕ) (l : Level) → length (placed_at ls m l) ≡ length ls
    placed_length ls m l =
        by_cond (λ (x : List Level). length x ≡ length ls) (leb 1 m)
        (λ _. by_cond (λ (x : List Level). length x ≡ length ls) (leb m 6) (λ _. length-set ls (m - 1) l) (λ _. refl))
        (λ _. refl)
