-- Wrong answers that the contracts shut out, each for one input. Assumes nothing.
use mathlib.Core.Path.{◌≡◌, ap, sym, ◌∙◌}
use mathlib.Core.Bool.{true, true≢false}
use mathlib.Core.List.{[], ◌∷◌, ◌++◌}
use contract.Lifetimes.{Lfts}
use borrow.Fn.Kinds.{Dens, ended_of}
use denote.Triple.Clauses.{AtExit}
use native.Mathlib.Omega.{arith}
use lib.ListN.{replicate}
use Rattle.names.specs.declared.Compared.{Compared}
use Rattle.names.specs.Names.{same_in, same_trace, alike_in, compared_of}
use Rattle.names.proofs.same_trace.Kinds as same_trace_kinds
use Rattle.names.proofs.same_trace.Reads as same_trace_reads
use Rattle.names.proofs.compare.Kinds as compare_kinds
use Rattle.names.proofs.compare.Reads as compare_reads

-- same_trace: the last of the 64 bytes counts too
pub bytes_63 : (κs : Lfts 2) (a : Dens κs same_trace_kinds.ps) (s : AtExit (ended_of 2 same_trace_kinds.ps same_trace_kinds.r) κs)
    → a.0.now ≡ replicate 64 0 → a.1.0.now ≡ replicate 63 0 ++ (1 ∷ []) → same_trace_reads.Post κs a true s → ⊥
unfolding same_trace same_in
bytes_63 κs a s p q e = true≢false (rw (p, q) at e)

-- compare: the DAPI is compared with the expected DAPI, and not with the expected SAPI
pub sapi_for_dapi : (κs : Lfts 2) (a : Dens κs compare_kinds.ps) (x : Compared) (s : AtExit (ended_of 2 compare_kinds.ps compare_kinds.r) κs)
    → a.0.now ≡ replicate 64 0 → a.1.0.now ≡ replicate 16 0 ++ replicate 16 7 → x.dapi ≡ true → compare_reads.Post κs a x s → ⊥
unfolding compared_of same_in
sapi_for_dapi κs a x s p q d e = true≢false (sym d ∙ ap (λ (c : Compared). c.dapi) (rw (p, q) at e.answers))

-- compare: no answer tells of one pair alone, whatever the bytes are: it was left at the first, which differed
pub left_early : (κs : Lfts 2) (a : Dens κs compare_kinds.ps) (x : Compared) (s : AtExit (ended_of 2 compare_kinds.ps compare_kinds.r) κs)
    → x.alike ≡ 0 → x.unlike ≡ 1 → compare_reads.Post κs a x s → ⊥
left_early κs a x s p q e = omega (arith, p, q, e.reads)

-- compare: 32 pairs that are counted and not looked at
pub all_alike : (κs : Lfts 2) (a : Dens κs compare_kinds.ps) (x : Compared) (s : AtExit (ended_of 2 compare_kinds.ps compare_kinds.r) κs)
    → a.0.now ≡ replicate 64 0 → a.1.0.now ≡ replicate 16 0 ++ replicate 16 7 → x.alike ≡ 32 → compare_reads.Post κs a x s → ⊥
unfolding compared_of alike_in
all_alike κs a x s p q d e =
    let z : x.alike ≡ 16 = ap (λ (c : Compared). c.alike) (rw (p, q) at e.answers) in
    omega (arith, d, z)
