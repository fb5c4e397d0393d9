-- What it says that a level is provisioned, the record of a level by its number, and what is done to it. Assumes nothing.
use Rattle.std.specs.Prelude.{Result, Ok, Err}
use mathlib.Core.Path.{◌≡◌, refl, ap, ◌∙◌}
use mathlib.Core.Bool.{Bool, true, false, cond, false≢true}
use mathlib.Core.List.{List, ◌++◌}
use Prim.Native.Nat.{ℕ, ◌+◌, ◌-◌, ◌≤◌}
use native.Mathlib.Omega.{arith}
use lib.Dec.{eqb, leb}
use lib.ListN.{length, get_or, take, drop, set}
use borrow.Author.Tests.{eqb-true, leb-true}
use Rattle.answer.specs.Refusal.{number_of, said}
use Rattle.answer.specs.declared.Refusal.{Refusal}
use Rattle.answer.proofs.Numbers.{number_above}
use Rattle.overhead.specs.Overhead.{level_field}
use Rattle.alignment.specs.declared.Multi.{Multi}
use Rattle.settings.specs.declared.Options.{Options}
use Rattle.rack.specs.Rack.{level_record}
use Rattle.bay.specs.Bay.{record_at, given_in, fresh_record, with_record, where_given, given_rule, frame_record}
use Rattle.bay.proofs.Chains.{begins, spans, record_of, record_set}

-- a test that passed
pub passed : (x : Bool) (e : Refusal) → ◌≡◌ {A = Result (Unit {0}) Refusal} (cond x (Ok tt) (Err e)) (Ok tt) → x ≡ true
passed true e h = refl
passed false e h = let n : number_of e ≡ 0 = ap said h in let p = number_above e in absurd (omega arith)

-- a `cond` that is true where its other branch is false
pub both : (t x : Bool) → cond t x false ≡ true → (t ≡ true) × (x ≡ true)
both true x e = (refl, e)
both false x e = absurd (false≢true e)

pub given_is : (b : List ℕ) (n : ℕ) → given_in b n ≡ true → (length b ≡ 1760) × ((1 ≤ n) × (n ≤ 6))
unfolding given_in
given_is b n e =
    let p = both (eqb (length b) 1760) _ e in
    let q = both (leb 1 n) _ p.1 in
    let r = both (leb n 6) _ q.1 in
    (eqb-true (length b) 1760 p.0, (leb-true 1 n q.0, leb-true n 6 r.0))

-- the record of level n, in its place
pub record_at_lem : (b : List ℕ) (n : ℕ) → (1 ≤ n) × (n ≤ 6) → take (spans (n - 1)) (drop (begins (n - 1)) b) ≡ record_at b n
record_at_lem b n h = record_of b (n - 1) (omega (arith, h))

-- Level n provisioned: its flag, then its record.
pub give_is : (b c y : List ℕ) (n : ℕ) (p : Options) → 1 ≤ n → n ≤ 6 → length c ≡ 1760 → c ≡ set b n 1 → y ≡ fresh_record p
    → take (begins (n - 1)) c ++ (y ++ drop (spans (n - 1)) (drop (begins (n - 1)) c)) ≡ with_record b n p
give_is b c y n p h g l ec ey = record_set c y (n - 1) (omega arith) l ∙ rw (ec, ey)

-- The level at index i, with field i + 1 and the count at i, is that of the rule for number 1 + i.
pub frame_is : (b : List ℕ) (ssf : Bool) (m : Multi) (o counts : List ℕ) (i : ℕ) (r y : List ℕ)
    → y ≡ where_given b (1 + i) (level_record r ssf m (level_field o (i + 1)) (get_or counts i 0)) r → y ≡ given_rule (frame_record ssf m o counts) b (1 + i) r
frame_is b ssf m o counts i r y e =
    let i1 : i + 1 ≡ 1 + i = omega arith in
    let i2 : 1 + i - 1 ≡ i = omega arith in
    rw i2 (rw i1 at e)
