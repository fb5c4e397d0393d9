-- Wrong answers that the contract shuts out, each for one input. Assumes nothing.
use mathlib.Core.Path.{◌≡◌, ap, sym, ◌∙◌}
use mathlib.Core.Bool.{Bool, true, false, true≢false}
use mathlib.Core.List.{List, [], ◌∷◌}
use Prim.Native.Nat.{ℕ}
use native.Mathlib.Omega.{arith}
use contract.Lifetimes.{Lfts}
use borrow.Fn.Kinds.{Dens, ended_of}
use denote.Triple.Clauses.{AtExit}
use lib.ListN.{get_or, replicate}
use Rattle.codec.specs.Over.{bytes_in}
use Rattle.cycle.proofs.trace_at.Kinds as trace_at_kinds
use Rattle.cycle.proofs.trace_at.Reads as trace_at_reads

-- trace_at: bytes that are no record have no dTIM
pub tim_of_nothing : (κs : Lfts 1) (a : Dens κs trace_at_kinds.ps) (x : Bool) (s : AtExit (ended_of 1 trace_at_kinds.ps trace_at_kinds.r) κs)
    → a.0.now ≡ [] → x ≡ true → trace_at_reads.Post κs a x s → ⊥
tim_of_nothing κs a x s b on e = true≢false (sym on ∙ rw b at e.answers)

-- trace_at: bytes that are no record are not written
pub trace_beyond : (κs : Lfts 1) (a : Dens κs trace_at_kinds.ps) (x : Bool) (s : AtExit (ended_of 1 trace_at_kinds.ps trace_at_kinds.r) κs)
    → a.0.now ≡ 7 ∷ [] → s.0.now ≡ 0 ∷ [] → trace_at_reads.Post κs a x s → ⊥
trace_beyond κs a x s b end e =
    let h : ◌≡◌ {A = List ℕ} (0 ∷ []) (7 ∷ []) = sym end ∙ rw b at e.holds in
    let z : ◌≡◌ {A = ℕ} 0 7 = ap (λ (l : List ℕ). get_or l 0 0) h in
    omega arith

-- trace_at: in OOM no cycle is gathered
pub gathered_in_oom : (κs : Lfts 1) (a : Dens κs trace_at_kinds.ps) (x : Bool) (s : AtExit (ended_of 1 trace_at_kinds.ps trace_at_kinds.r) κs)
    → a.0.now ≡ replicate 288 0 → a.1.0 ≡ false → a.1.1.0 ≡ false → get_or s.0.now 33 0 ≡ 1 → trace_at_reads.Post κs a x s → ⊥
unfolding bytes_in
gathered_in_oom κs a x s b forget out end e =
    let z : ◌≡◌ {A = ℕ} 1 0 = sym end ∙ ap (λ (l : List ℕ). get_or l 33 0) (rw (b, forget, out) at e.holds) in
    omega arith
