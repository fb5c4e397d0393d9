-- What a signal raises, by its code and by the number of an accepted STAT. Assumes nothing.
use Prim.Native.Nat.{ℕ}
use mathlib.Core.Path.{◌≡◌, refl}
use mathlib.Core.Bool.{Bool, true, false, ◌&&◌}
use lib.Dec.{eqb}
use borrow.Author.Tests.{eqb-true}
use Rattle.filter.specs.declared.Stat.{Stat}
use Rattle.signal.specs.Signal.{signal_of, stands_for, code_of, raised_of}
use Rattle.signal.specs.declared.Signal.{Signal}
use Rattle.signal.specs.declared.Signal.TheVariants.{Clear, Lck, Oci, Ais}
use Rattle.signal.specs.declared.Raised.{Raised}

-- by a number
abbrev raised_at : ℕ → Raised
raised_at v = record { ais = eqb v 7; oci = eqb v 6; lck = eqb v 5 }

pub by_codes : (s : Signal) → raised_at (code_of s) ≡ raised_of s
by_codes Ais = refl
by_codes Oci = refl
by_codes Lck = refl
by_codes Clear = refl

-- of three tests the first that holds is the signal's
by_tests : (v : ℕ) (a o l : Bool) → eqb v 7 ≡ a → eqb v 6 ≡ o → eqb v 5 ≡ l → raised_at v ≡ raised_of (signal_of v)
unfolding signal_of
by_tests v true o l p q r = rw (eqb-true v 7 p)
by_tests v false true l p q r = rw (eqb-true v 6 q)
by_tests v false false true p q r = rw (eqb-true v 5 r)
by_tests v false false false p q r = rw (p, q, r)

abbrev raised_in : Stat → Raised
raised_in s = record { ais = s.known && eqb s.accepted 7; oci = s.known && eqb s.accepted 6; lck = s.known && eqb s.accepted 5 }

by_known : (s : Stat) (k : Bool) → s.known ≡ k → raised_in s ≡ raised_of (stands_for s)
unfolding stands_for
by_known s true e = rw e (by_tests s.accepted (eqb s.accepted 7) (eqb s.accepted 6) (eqb s.accepted 5) refl refl refl)
by_known s false e = rw e

pub by_number : (s : Stat) → raised_in s ≡ raised_of (stands_for s)
by_number s = by_known s s.known refl
