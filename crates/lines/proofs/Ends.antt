-- The line of the pending second: where there is one, and where there is none. Assumes nothing.
use Prim.Native.Nat.{ℕ}
use Rattle.std.specs.Prelude.{Some, None}
use mathlib.Core.Path.{◌≡◌, refl}
use mathlib.Core.Bool.{Bool, true, false}
use mathlib.Core.List.{List, [], append-nil}
use Rattle.listing.specs.Text.{second_line}
use Rattle.late.specs.Late.{if_told, pending_of}
use Rattle.trace.specs.declared.State.{State}
use Rattle.stream.specs.Stream.{listed_in}
use Rattle.lines.specs.Line.{second_lines, pending_line}

pub pending_some : (st : State) → (pending_of st.sup).told ≡ true → pending_line st ≡ second_line (listed_in st (pending_of st.sup).figures)
unfolding pending_line second_lines
pending_some st e = rw e (append-nil _)

pub pending_none : (st : State) → (pending_of st.sup).told ≡ false → pending_line st ≡ []
unfolding pending_line second_lines
pending_none st e = rw e

-- what the answer says of the pending second
pub told_some : (b : Bool) (f x : List ℕ) → Some x ≡ if_told b f → (b ≡ true) × (f ≡ x)
told_some true f x e = (refl, cc)
told_some false f x e = cc

pub told_none : (b : Bool) (f : List ℕ) → None ≡ if_told b f → b ≡ false
told_none true f e = cc
told_none false f e = refl
