-- No count of an accepted second is more than its frames, and these are 400,000 at most. Assumes nothing.
use Prim.Native.Nat.{ℕ, ◌≤◌, ◌<◌}
use mathlib.Core.Path.{◌≡◌, refl}
use mathlib.Core.Bool.{Bool, true, false, cond, ◌&&◌}
use mathlib.Core.List.{List, [], ◌∷◌}
use native.Mathlib.Omega.{arith}
use lib.Dec.{leb, ltb, eqb}
use lib.ListN.{length}
use borrow.Author.Tests.{ltb-true}
use Rattle.answer.specs.Bits.{flag}
use Rattle.answer.specs.Checks.{check}
use Rattle.answer.proofs.Checks.{passed}
use Rattle.history.specs.History.{Frame, Event, frame, mark}
use Rattle.history.specs.Ledger.{marks}
use Rattle.page.specs.Page.{in_second, yes, tally, held, frame_refusal, Taken}

-- a flag, and a count that may be voided
pub flag_low : (b : Bool) → flag b ≤ 1
flag_low true = omega arith
flag_low false = omega arith

pub void_low : (t : Bool) {n : ℕ} → n ≤ 400000 → cond t 0 n ≤ 400000
void_low true h = omega arith
void_low false h = h

-- "a frame when the open second holds 400,000" is refused
room : (f : Frame) (h : List Event) → frame_refusal f h ≡ 0 → held h < 400000
room f h e =
    let all = passed 4 (check 1 (eqb (length f.overhead) 64)
    ∷ check 2 (leb f.flags 3)
    ∷ check 3 (leb f.sm 8 && leb f.pm 8)
    ∷ check 4 (ltb (held h) 400000)
    ∷ []) refl e in
    ltb-true (held h) 400000 all.1.1.1.0

pub held_low : (h : List Event) → Taken h → held h ≤ 400000
unfolding in_second
held_low [] t = omega arith
held_low (frame f ∷ h) t = omega (arith, room f h t.0)
held_low (mark ∷ h) t = omega arith

-- and "a mark when 4,294,967,295 seconds are closed"
pub marks_low : (h : List Event) → Taken h → marks h ≤ 4294967295
marks_low [] t = omega arith
marks_low (frame f ∷ h) t = marks_low h t.1
marks_low (mark ∷ h) t = omega (arith, t.0)

-- a count goes once over the frames of the second
yes_low : (l : List Bool) → yes l ≤ length l
unfolding yes
yes_low [] = omega arith
yes_low (x ∷ l) = omega (arith, flag_low x, yes_low l)

long_is : (q : Frame → List Frame → Bool) (h : List Event) → length (in_second q h) ≡ held h
unfolding in_second
long_is q [] = refl
long_is q (frame f ∷ h) = omega (arith, long_is q h)
long_is q (mark ∷ h) = refl

pub tally_low : (q : Frame → List Frame → Bool) (h : List Event) → tally q h ≤ held h
tally_low q h = omega (arith, yes_low (in_second q h), long_is q h)
