-- Laws of a number in its bytes. Assumes nothing.
use Prim.Native.Nat.{ℕ, ◌+◌, ◌≤◌}
use mathlib.Core.Path.{◌≡◌, ◌∙◌}
use mathlib.Core.Bool.{Bool}
use mathlib.Core.List.{List}
use native.Mathlib.Omega.{arith}
use lib.ListN.{length}
use borrow.Author.Tests.{eq-eqb}
use Rattle.codec.proofs.Overs.{byte_in}
use Rattle.codec.specs.Over.{bytes_in}
use Rattle.filter.specs.declared.Filter.{Filter}
use Rattle.filter.specs.Filter.{filter_of}
use Rattle.fields.specs.Fields.{sized, filter_at, filter_bytes, FilterStep, stat_at}

-- In bytes of its own length a number is what is said of it there.

pub sized_so : {A : Type 0} (n : ℕ) (w : List ℕ) (x y : A) → length w ≡ n → sized n w x y ≡ x
sized_so n w x y e = rw (eq-eqb (length w) n e)

pub filter_stepped : (w : List ℕ) (n : ℕ) (forget bit : Bool) (r : Filter) (v : List ℕ) → length w ≡ 2 → FilterStep w n forget bit r v
    → (r ≡ filter_of (filter_at w 0) n forget bit) × (v ≡ filter_bytes (filter_of (filter_at w 0) n forget bit))
filter_stepped w n forget bit r v e s = (s.answers ∙ sized_so 2 w _ _ e, s.holds ∙ sized_so 2 w _ _ e)

-- a filter read from its two bytes is the one that stands in all of them
pub filter_in : (w : List ℕ) (at : ℕ) → at + 2 ≤ length w → filter_at (bytes_in 2 at w) 0 ≡ filter_at w at
filter_in w at h =
    let x = byte_in 2 at 0 at w h (omega arith) (omega arith) in
    let y = byte_in 2 at 1 (at + 1) w h (omega arith) (omega arith) in
    rw (x, y)

-- and a STAT read from its four bytes
pub stat_in : (w : List ℕ) (at : ℕ) → at + 4 ≤ length w → stat_at (bytes_in 4 at w) 0 ≡ stat_at w at
stat_in w at h =
    let x = byte_in 4 at 0 at w h (omega arith) (omega arith) in
    let y = byte_in 4 at 1 (at + 1) w h (omega arith) (omega arith) in
    let z = byte_in 4 at 2 (at + 2) w h (omega arith) (omega arith) in
    let v = byte_in 4 at 3 (at + 3) w h (omega arith) (omega arith) in
    rw (x, y, z, v)
