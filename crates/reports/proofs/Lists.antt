-- Lists of calls in parts: what they leave and tell, and where their marks stand. Assumes nothing.
use Prim.Native.Nat.{ℕ, zero, suc, ◌+◌, ◌≤◌}
use mathlib.Core.Path.{◌≡◌, refl, sym, ap, ◌∙◌}
use mathlib.Core.Bool.{cond}
use mathlib.Core.List.{List, [], ◌∷◌, ◌++◌, reverse_aux, append_assoc}
use native.Mathlib.Omega.{arith}
use lib.Dec.{eqb}
use Rattle.answer.proofs.Cond.{cond_under}
use Rattle.settings.specs.Settings.{options_of}
use Rattle.settings.specs.declared.Options.{Options}
use Rattle.settings.specs.declared.Request.{Request}
use Rattle.history.specs.Ledger.{marks as marks_among}
use Rattle.tandem.specs.declared.Tandem.{Tandem}
use Rattle.watch.specs.Watch.{LevelCall, gives, records, frames, marks, tandem_by, tandem_after, AllTaken, events_among}
use Rattle.sheet.specs.Sheet.{LevelEvent, counted, closed, plainly, events_of, Provisioned, never, with, provisioned}
use Rattle.sheet.proofs.Calls.{plain_events}
use Rattle.late.specs.declared.Late.{Late}
use Rattle.reports.specs.Reports.{late_by, late_after, mark_tells, calls_tell, plain_of, marks_in, before_mark}

-- what calls leave, and which are accepted
pub taken_parts : (t : Tandem) (a b : List LevelCall) → AllTaken t (a ++ b) → AllTaken t a × AllTaken (tandem_after t a) b
unfolding tandem_after
taken_parts t [] b x = (tt, x)
taken_parts t (c ∷ a) b x =
    let y = taken_parts (tandem_by t c) a b x.1 in
    ((x.0, y.0), y.1)

pub taken_join : (t : Tandem) (a b : List LevelCall) → AllTaken t a → AllTaken (tandem_after t a) b → AllTaken t (a ++ b)
unfolding tandem_after
taken_join t [] b x y = y
taken_join t (c ∷ a) b x y = (x.0, taken_join (tandem_by t c) a b x.1 y)

pub late_append : (s : Late) (a b : List LevelCall) → late_after s (a ++ b) ≡ late_after (late_after s a) b
unfolding late_after
late_append s [] b = refl
late_append s (c ∷ a) b = late_append (late_by s c) a b

pub tells_append : (s : Late) (a b : List LevelCall) → calls_tell s (a ++ b) ≡ calls_tell s a ++ calls_tell (late_after s a) b
unfolding late_after calls_tell
tells_append s [] b = refl
tells_append s (gives n r names ∷ a) b = tells_append (late_by s (gives n r names)) a b
tells_append s (records n r names ∷ a) b = tells_append (late_by s (records n r names)) a b
tells_append s (frames f counts ∷ a) b = tells_append (late_by s (frames f counts)) a b
tells_append s (marks ∷ a) b =
    ap (λ (x : List (List ℕ)). mark_tells s ++ x) (tells_append (late_by s marks) a b)
    ∙ sym (append_assoc (mark_tells s) (calls_tell (late_by s marks) a) (calls_tell (late_after (late_by s marks) a) b))

-- the earlier provisioning stays
abbrev earlier : Provisioned → Provisioned → Provisioned
earlier never w = w
earlier (with o) w = with o

given_before_lem : (n m : ℕ) (r : Request) (names : List ℕ) (v w x : Provisioned) → x ≡ earlier v w
    → cond (eqb m n) (with (options_of r names)) x ≡ earlier (cond (eqb m n) (with (options_of r names)) v) w
given_before_lem n m r names v w x e =
    ap (λ (y : Provisioned). cond (eqb m n) (with (options_of r names)) y) e
    ∙ sym (cond_under (λ (y : Provisioned). earlier y w) (eqb m n) (with (options_of r names)) v)

provisioned_append : (n : ℕ) (a b : List LevelCall) → provisioned n (a ++ b) ≡ earlier (provisioned n a) (provisioned n b)
unfolding provisioned
provisioned_append n [] b = refl
provisioned_append n (gives m r names ∷ a) b = given_before_lem n m r names (provisioned n a) (provisioned n b) _ (provisioned_append n a b)
provisioned_append n (records m r names ∷ a) b = given_before_lem n m r names (provisioned n a) (provisioned n b) _ (provisioned_append n a b)
provisioned_append n (frames f counts ∷ a) b = provisioned_append n a b
provisioned_append n (marks ∷ a) b = provisioned_append n a b

pub provisioned_stays : (n : ℕ) (a b : List LevelCall) (o : Options) → provisioned n a ≡ with o → provisioned n (a ++ b) ≡ with o
provisioned_stays n a b o e = provisioned_append n a b ∙ ap (λ (w : Provisioned). earlier w (provisioned n b)) e

-- how many marks there are
pub marks_append : (a b : List LevelCall) → marks_in (a ++ b) ≡ marks_in a + marks_in b
unfolding events_among
marks_append [] b = omega arith
marks_append (gives n r names ∷ a) b = marks_append a b
marks_append (records n r names ∷ a) b = marks_append a b
marks_append (frames f counts ∷ a) b = marks_append a b
marks_append (marks ∷ a) b = omega (arith, marks_append a b)

marks_back : (a b : List LevelEvent) → marks_among (plainly (reverse_aux a b)) ≡ marks_among (plainly a) + marks_among (plainly b)
marks_back [] b = omega arith
marks_back (counted f counts ∷ a) b = marks_back a (counted f counts ∷ b)
marks_back (closed ∷ a) b = omega (arith, marks_back a (closed ∷ b))

pub marks_plain : (cs : List LevelCall) → marks_among (plain_of cs) ≡ marks_in cs
marks_plain cs =
    let e : marks_among (plainly (events_of cs)) ≡ marks_in cs = ap marks_among (plain_events cs) in
    omega (arith, marks_back (events_of cs) [], e)

-- mark i stands behind the calls before it
pub record MarkAt (i : ℕ) (cs : List LevelCall) : Type 0 where
  pub rest : List LevelCall
  pub is : cs ≡ before_mark i cs ++ (marks ∷ rest)
  pub number : marks_in (before_mark i cs) + 1 ≡ i

pub mark_at : (i : ℕ) (cs : List LevelCall) → 1 ≤ i → i ≤ marks_in cs → MarkAt i cs
unfolding before_mark events_among
mark_at i [] low high = absurd (omega (arith, low, high))
mark_at i (gives n r names ∷ cs) low high =
    let m = mark_at i cs low high in
    record { rest = m.rest; is = ap (λ (x : List LevelCall). gives n r names ∷ x) m.is; number = m.number }
mark_at i (records n r names ∷ cs) low high =
    let m = mark_at i cs low high in
    record { rest = m.rest; is = ap (λ (x : List LevelCall). records n r names ∷ x) m.is; number = m.number }
mark_at i (frames f counts ∷ cs) low high =
    let m = mark_at i cs low high in
    record { rest = m.rest; is = ap (λ (x : List LevelCall). frames f counts ∷ x) m.is; number = m.number }
mark_at zero (marks ∷ cs) low high = absurd (omega (arith, low))
mark_at (suc zero) (marks ∷ cs) low high = record { rest = cs; is = refl; number = refl }
mark_at (suc (suc i)) (marks ∷ cs) low high =
    let m = mark_at (suc i) cs (omega arith) (omega (arith, high)) in
    record { rest = m.rest; is = ap (λ (x : List LevelCall). marks ∷ x) m.is; number = omega (arith, m.number) }

-- and they are the same whatever follows it
pub before_append : (i : ℕ) (a b : List LevelCall) → 1 ≤ i → i ≤ marks_in a → before_mark i (a ++ b) ≡ before_mark i a
unfolding before_mark events_among
before_append i [] b low high = absurd (omega (arith, low, high))
before_append i (gives n r names ∷ a) b low high = ap (λ (x : List LevelCall). gives n r names ∷ x) (before_append i a b low high)
before_append i (records n r names ∷ a) b low high = ap (λ (x : List LevelCall). records n r names ∷ x) (before_append i a b low high)
before_append i (frames f counts ∷ a) b low high = ap (λ (x : List LevelCall). frames f counts ∷ x) (before_append i a b low high)
before_append zero (marks ∷ a) b low high = absurd (omega (arith, low))
before_append (suc zero) (marks ∷ a) b low high = refl
before_append (suc (suc i)) (marks ∷ a) b low high = ap (λ (x : List LevelCall). marks ∷ x) (before_append (suc i) a b (omega arith) (omega (arith, high)))

-- the calls before the next mark are all so far
pub before_next : (i : ℕ) (a b : List LevelCall) → i ≡ marks_in a + 1 → before_mark i (a ++ (marks ∷ b)) ≡ a
unfolding before_mark events_among
before_next zero [] b e = absurd (omega (arith, e))
before_next (suc zero) [] b e = refl
before_next (suc (suc i)) [] b e = absurd (omega (arith, e))
before_next i (gives n r names ∷ a) b e = ap (λ (x : List LevelCall). gives n r names ∷ x) (before_next i a b e)
before_next i (records n r names ∷ a) b e = ap (λ (x : List LevelCall). records n r names ∷ x) (before_next i a b e)
before_next i (frames f counts ∷ a) b e = ap (λ (x : List LevelCall). frames f counts ∷ x) (before_next i a b e)
before_next zero (marks ∷ a) b e = absurd (omega (arith, e))
before_next (suc zero) (marks ∷ a) b e = absurd (omega (arith, e))
before_next (suc (suc i)) (marks ∷ a) b e = ap (λ (x : List LevelCall). marks ∷ x) (before_next (suc i) a b (omega (arith, e)))
