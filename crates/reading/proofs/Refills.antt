-- The law of a refill: reading, a turn, writing, and keeping what was not used. Assumes nothing.
use Prim.Native.Nat.{ℕ, ◌+◌, ◌-◌, ◌≤◌, ◌<◌}
use mathlib.Core.Path.{◌≡◌, refl, ◌∙◌, ap, sym, subst}
use mathlib.Core.Bool.{Bool, true, false, cond, not, ◌||◌}
use mathlib.Core.List.{List, ◌++◌}
use native.Mathlib.Omega.{arith}
use lib.Dec.{eqb}
use lib.ListN.{length, take, drop, length-drop}
use lib.Seq.{take-add, drop_at, length-take-le}
use Rattle.std.specs.List.{copy_within}
use Rattle.std.proofs.lemmas.List.Edits.{take-paste}
use Rattle.reading.specs.Turn.{Turned, Refilled, Sound, turn_of, written_of, Refill}
use Rattle.reading.specs.declared.Reading.{Reading}
use Rattle.reading.proofs.Turns.{turn_used, turn_sound, turn_at, turn_kept, turn_ends}

or-false : (a b : Bool) → (a || b) ≡ false → a ≡ false
or-false true b e = e
or-false false b e = refl

or-true : (a b : Bool) → a ≡ true → (a || b) ≡ true
or-true true b e = refl
or-true false b e = cc

-- the end of a front part
drop_take : (l : List ℕ) (a b : ℕ) → a ≤ length l → drop a (take (a + b) l) ≡ take b (drop a l)
drop_take l a b h = rw (take-add a b l) (drop_at (take a l) (take b (drop a l)) a (length-take-le a l h))

-- what is moved to the start of a buffer
pub moved_is : (one : List ℕ) (used full : ℕ) → full ≤ length one → used ≤ full → take (full - used) (copy_within one used full 0) ≡ take (full - used) (drop used one)
moved_is one used full h u =
    let z : 0 + (full - used) ≡ full - used = omega arith in
    subst (λ (n : ℕ). take n (copy_within one used full 0) ≡ take (full - used) (drop used one)) z (take-paste one 0 (drop used one) (full - used) (omega arith) (simp length-drop (omega arith)))

module _ (from : Reading) (held got : ℕ) (h : Sound from) (buf one two s : List ℕ) (t : Turned) (off : Bool)
    (room : held + got ≤ length one) (same : take held one ≡ take held buf) (is : s ≡ take (held + got) one)
    (turns : t ≡ turn_of from s (eqb got 0)) where
  long : length s ≡ held + got
  long = ap length is ∙ length-take-le (held + got) one room

  pub used_few : t.used ≤ held + got
  used_few = omega (arith, ap (λ (t : Turned). t.used) turns, turn_used from s h (eqb got 0), long)

  pub refilled : (out : List ℕ) → out ≡ written_of from s (eqb got 0) → take (held + got - t.used) two ≡ take (held + got - t.used) (drop t.used one)
      → Refill from held buf two out (record { reading = t.reading; held = held + got - t.used; ended = t.done || off })
  refilled out written moved =
      let u = used_few in
      let p : List ℕ = take got (drop held one) in
      let lp : length p ≡ got = length-take-le got (drop held one) (simp length-drop (omega arith)) in
      let left : ℕ = held + got - t.used in
      let all : t.used + left ≡ held + got = omega arith in
      let at : t.reading.at ≡ from.at + t.used = ap (λ (t : Turned). t.reading.at) turns ∙ turn_at from s h (eqb got 0) ∙ ap (λ (t : Turned). from.at + t.used) (sym turns) in
      record {
        piece = p;
        whole = s;
        is = is ∙ take-add held got one ∙ ap (λ (l : List ℕ). l ++ p) same;
        turned = t;
        turns = turns ∙ ap (λ (n : ℕ). turn_of from s (eqb n 0)) (sym lp);
        written = written ∙ ap (λ (n : ℕ). written_of from s (eqb n 0)) (sym lp);
        reading = refl;
        kept = moved ∙ sym (drop_take one t.used left (omega arith)) ∙ ap (λ (n : ℕ). drop t.used (take n one)) all ∙ ap (drop t.used) (sym is);
        done = or-true t.done off;
        sound = rw turns (turn_sound from s h (eqb got 0));
        room = λ e. omega (arith, long, ap (λ (t : Turned). t.used) turns, turn_kept from s h (eqb got 0) (ap (λ (t : Turned). t.done) (sym turns) ∙ or-false t.done off e));
        further = λ e. omega (arith, at, turn_ends from s h got (ap (λ (t : Turned). t.done) (sym turns) ∙ or-false t.done off e));
      }

pub not_true : (b : Bool) → not b ≡ true → b ≡ false
not_true true e = sym e
not_true false e = refl

-- How far a program is from its end: each refill after which it goes on has read more of what a trace can hold.
unfoldable pub to_go : Bool → ℕ → ℕ
to_go ended n = cond ended 0 (1 + (132285009896669610 - n))

pub nearer : (from r : Refilled) → Sound from.reading → from.held < 83 → from.ended ≡ false → (r.ended ≡ false → from.reading.at + from.held < r.reading.at + r.held)
    → to_go r.ended (r.reading.at + r.held) < to_go from.ended (from.reading.at + from.held)
unfolding to_go
nearer from r h l e f = rw e (by_ended r.ended refl)
  where
    most : from.reading.at + from.held < 132285009896669610
    most = omega (arith, h.within, h.most, h.few, h.held, h.seconds)

    by_ended : (b : Bool) → r.ended ≡ b → cond b 0 (1 + (132285009896669610 - (r.reading.at + r.held))) < 1 + (132285009896669610 - (from.reading.at + from.held))
    by_ended true p = omega arith
    by_ended false p = omega (arith, most, f p)
