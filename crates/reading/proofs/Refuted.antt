-- A wrong answer that the contract of `goes_on` shuts out. Assumes nothing.
use Prim.Native.Nat.{ℕ}
use native.Mathlib.Omega.{arith}
use mathlib.Core.Path.{◌≡◌}
use mathlib.Core.Bool.{true, false}
use contract.Lifetimes.{Lfts}
use borrow.Fn.Kinds.{ended_of}
use denote.Triple.Clauses.{AtExit}
use Rattle.reading.proofs.goes_on.Kinds as goes_on_kinds
use Rattle.reading.proofs.goes_on.Reads as goes_on_reads

-- only a cut record waits for more bytes: a record of another kind does not
pub waits_at_15 : (κs : Lfts 0) (s : AtExit (ended_of 0 goes_on_kinds.ps goes_on_kinds.r) κs) → goes_on_reads.Post κs (15, tt) true s → ⊥
waits_at_15 κs s e = let h : true ≡ false = e in let z : ◌≡◌ {A = ℕ} 0 1 = cc in omega arith
