-- The refusals of a level's provisioning, by those of a supervisor's. Assumes nothing.
use Prim.Native.Nat.{ℕ, ◌-◌, ◌<◌, ◌≤◌}
use mathlib.Core.Path.{◌≡◌, refl}
use mathlib.Core.Bool.{Bool, true, false, cond, not, ◌&&◌}
use mathlib.Core.List.{List, [], ◌∷◌, ◌++◌}
use native.Mathlib.Omega.{arith}
use lib.Dec.{leb, ltb, eqb}
use lib.ListN.{length, set}
use Rattle.std.proofs.lemmas.Bool.{le-leb}
use borrow.Author.Tests.{eqb-true, leb-true, ltb-true, ne_eqb}
use Rattle.answer.specs.Checks.{Check, first_of}
use Rattle.answer.proofs.Checks.{within, passed}
use Rattle.answer.proofs.Cond.{by_cond, and_left, and_right, not_so}
use Rattle.settings.specs.Settings.{ceiling_of, thr_good, degm_good, settings_refusal}
use Rattle.settings.specs.declared.Request.{Request}
use Rattle.settings.proofs.Ranges.{provisioned_in}
use Rattle.causes.specs.Causes.{report_of}
use Rattle.supervisor.specs.Supervisor.{step_refusal, stands_after, frame_of, step_of}
use Rattle.tandem.specs.Levels.{is_level, level_at, free_at, placed_at, low_to}
use Rattle.tandem.specs.Tandem.{request_checks, place_checks, request_refusal, give_refusal, record_refusal, frame_checks, frame_refusal}
use Rattle.tandem.specs.declared.Level.{Level}
use Rattle.tandem.specs.declared.Tandem.{Tandem}

-- the tests of one list, then those of another: the second is asked where nothing is refused by the first
one_after : (t : Bool) (x a b n : ℕ) → 0 < n → x ≡ cond (eqb a 0) b a → cond t x n ≡ cond (eqb (cond t a n) 0) b (cond t a n)
one_after true x a b n h e = e
one_after false x a b n h e = rw (ne_eqb n 0 (λ (z : n ≡ 0). omega arith))

pub first_after : (n : ℕ) (xs ys : List Check) → within n xs ≡ true → first_of (xs ++ ys) ≡ cond (eqb (first_of xs) 0) (first_of ys) (first_of xs)
first_after n [] ys w = refl
first_after n (c ∷ xs) ys w =
    let one = and_left (ltb 0 c.number && leb c.number n) (within n xs) w in
    let more = and_right (ltb 0 c.number && leb c.number n) (within n xs) w in
    let low = ltb-true _ _ (and_left (ltb 0 c.number) (leb c.number n) one) in
    one_after c.passes (first_of (xs ++ ys)) (first_of xs) (first_of ys) c.number low (first_after n xs ys more)

and_same : (b : Bool) → (b && b) ≡ b
and_same true = refl
and_same false = refl

-- a level's tests are those of a section and a path that ask for the same
pub request_same : (k : ℕ) (r : Request) (names : List ℕ) → (leb 1 k && leb k 3) ≡ true → settings_refusal k r r names names ≡ request_refusal k r names
unfolding settings_refusal request_refusal
request_same k r names e =
    rw (e, and_same (thr_good k r.thr), and_same (degm_good r.degm), and_same (leb r.mode 3), and_same (leb r.dis 2), and_same (eqb (length names) 32))

-- a k that is not 1 to 3 has the ceiling of 3
ceiling_other : (k : ℕ) → (leb 1 k && leb k 3) ≡ false → ceiling_of k ≡ ceiling_of 3
unfolding ceiling_of
ceiling_other k e =
    by_cond (λ (x : ℕ). x ≡ 329492) (eqb k 1)
    (λ one. absurd (not_so (rw (eqb-true k 1 one) at e)))
    (λ _. by_cond (λ (x : ℕ). x ≡ 329492) (eqb k 2) (λ two. absurd (not_so (rw (eqb-true k 2 two) at e))) (λ _. refl))

pub request_other : (k : ℕ) (r : Request) (names : List ℕ) → (leb 1 k && leb k 3) ≡ false → settings_refusal 3 r r names names ≡ request_refusal k r names
unfolding request_refusal thr_good
request_other k r names e = rw (request_same 3 r names refl, ceiling_other k e)

-- so they are what is asked for under the k that is held
pub request_held : (k : ℕ) (r : Request) (names : List ℕ)
    → settings_refusal (cond (leb 1 k && leb k 3) k 3) r r names names ≡ request_refusal k r names
request_held k r names =
    by_cond (λ (x : ℕ). settings_refusal x r r names names ≡ request_refusal k r names) (leb 1 k && leb k 3) (request_same k r names) (request_other k r names)

-- an accepted request has 32 bytes of names
pub names_held : (k : ℕ) (r : Request) (names : List ℕ) → settings_refusal k r r names names ≡ 0 → length names ≡ 32
names_held k r names e = (provisioned_in k r r names names e).section.names

-- a provisioning's tests: from C those of the request first, by a record those of the place
pub give_by : (t : Tandem) (n : ℕ) (r : Request) (names : List ℕ)
    → give_refusal t n r names
    ≡ cond (eqb (request_refusal t.base.settings.k r names) 0) (first_of (place_checks t n)) (request_refusal t.base.settings.k r names)
unfolding give_refusal request_refusal
give_by t n r names = first_after 10 (request_checks t.base.settings.k r names) (place_checks t n) refl

pub record_by : (t : Tandem) (n : ℕ) (r : Request) (names : List ℕ)
    → record_refusal t n r names
    ≡ cond (eqb (first_of (place_checks t n)) 0) (request_refusal t.base.settings.k r names) (first_of (place_checks t n))
unfolding record_refusal request_refusal
record_by t n r names = first_after 18 (place_checks t n) (request_checks t.base.settings.k r names) refl

-- a level that is free is one of the six
pub free_range : (ls : List Level) (n : ℕ) → free_at ls n ≡ true → (1 ≤ n) × (n ≤ 6)
free_range ls n e =
    let i = and_left (is_level n) (not (level_at ls n).given) e in
    (leb-true 1 n (and_left (leb 1 n) (leb n 6) i), leb-true n 6 (and_right (leb 1 n) (leb n 6) i))

-- a level in its place
pub placed : (ls : List Level) (n m : ℕ) (l : Level) → 1 ≤ n → n ≤ 6 → m ≡ n → set ls (m - 1) l ≡ placed_at ls n l
placed ls n m l low high e = rw (e, le-leb 1 n low, le-leb n 6 high)

-- line, section and path refuse no frame that is accepted with its six counts
pub framed_taken : (t : Tandem) (overhead : List ℕ) (flags sm pm : ℕ) (counts : List ℕ) → frame_refusal t overhead flags sm pm counts ≡ 0
    → step_refusal t.base overhead flags sm pm ≡ 0
unfolding frame_refusal step_refusal
framed_taken t overhead flags sm pm counts e =
    let a = passed 4 (frame_checks t overhead flags sm pm counts) refl e in
    rw (a.0, a.1.0, and_left (leb sm 8 && leb pm 8) (low_to 6 counts) a.1.1.0, a.1.1.1.0)

-- and what they answer then
pub framed_ok : (t : Tandem) (overhead : List ℕ) (flags sm pm : ℕ) (counts : List ℕ) → frame_refusal t overhead flags sm pm counts ≡ 0
    → step_of t.base overhead flags sm pm
    ≡ record { refusal = 0; report = report_of (stands_after t.base overhead flags) sm pm; supervisor = frame_of t.base overhead flags sm pm }
unfolding frame_refusal step_of step_refusal
framed_ok t overhead flags sm pm counts e =
    let a = passed 4 (frame_checks t overhead flags sm pm counts) refl e in
    rw (a.0, a.1.0, and_left (leb sm 8 && leb pm 8) (low_to 6 counts) a.1.1.0, a.1.1.1.0)

-- an accepted provisioning has 32 bytes of names
pub give_names : (t : Tandem) (n : ℕ) (r : Request) (names : List ℕ) → give_refusal t n r names ≡ 0 → length names ≡ 32
unfolding give_refusal
give_names t n r names e = eqb-true _ _ (passed 18 (request_checks t.base.settings.k r names ++ place_checks t n) refl e).1.1.1.1.0

pub record_names : (t : Tandem) (n : ℕ) (r : Request) (names : List ℕ) → record_refusal t n r names ≡ 0 → length names ≡ 32
unfolding record_refusal
record_names t n r names e =
    eqb-true _ _ (passed 18 (place_checks t n ++ request_checks t.base.settings.k r names) refl e).1.1.1.1.1.1.0
