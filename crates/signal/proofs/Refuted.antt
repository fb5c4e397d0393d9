-- Wrong answers that the contracts shut out, each for one input. Assumes nothing.
use mathlib.Core.Path.{◌≡◌, ap, sym, ◌∙◌}
use mathlib.Core.Bool.{true, false, true≢false, false≢true}
use contract.Lifetimes.{Lfts}
use borrow.Fn.Kinds.{ended_of}
use denote.Triple.Clauses.{AtExit}
use Rattle.filter.specs.declared.Stat.{Stat}
use Rattle.signal.specs.declared.Signal.TheVariants.{Clear, Lck, Ais}
use Rattle.signal.specs.declared.Raised.{Raised}
use Rattle.signal.specs.Signal.{signal_of, stands_for, is_ais, is_lck}
use Rattle.signal.proofs.stands_for.Kinds as stands_for_kinds
use Rattle.signal.proofs.stands_for.Reads as stands_for_reads
use Rattle.signal.proofs.raised_by.Kinds as raised_by_kinds
use Rattle.signal.proofs.raised_by.Reads as raised_by_reads
use Rattle.signal.proofs.raised_in.Kinds as raised_in_kinds
use Rattle.signal.proofs.raised_in.Reads as raised_in_reads

-- stands_for: no signal stands before a STAT is accepted, whatever was received
pub fresh_ais : (κs : Lfts 0) (t : Stat) (s : AtExit (ended_of 0 stands_for_kinds.ps stands_for_kinds.r) κs)
    → t.known ≡ false → stands_for_reads.Post κs (t, tt) Ais s → ⊥
unfolding stands_for
fresh_ais κs t s k e =
    let h : Ais ≡ Clear = rw k at e in
    let z : true ≡ false = ap is_ais h in
    true≢false z

-- stands_for: 100 is no signal
pub four_lck : (κs : Lfts 0) (t : Stat) (s : AtExit (ended_of 0 stands_for_kinds.ps stands_for_kinds.r) κs)
    → t.known ≡ true → t.accepted ≡ 4 → stands_for_reads.Post κs (t, tt) Lck s → ⊥
unfolding stands_for signal_of
four_lck κs t s k v e =
    let h : Lck ≡ Clear = rw (k, v) at e in
    let z : true ≡ false = ap is_lck h in
    true≢false z

-- raised_by: 101 is dLCK, and raises it
pub lck_raises_nothing : (κs : Lfts 0) (x : Raised) (s : AtExit (ended_of 0 raised_by_kinds.ps raised_by_kinds.r) κs)
    → x.lck ≡ false → raised_by_reads.Post κs (Lck, tt) x s → ⊥
lck_raises_nothing κs x s l e = false≢true (sym l ∙ ap (λ (r : Raised). r.lck) e)

-- raised_in: nothing is raised before a STAT is accepted, whatever number is kept
pub unknown_raises : (κs : Lfts 0) (t : Stat) (x : Raised) (s : AtExit (ended_of 0 raised_in_kinds.ps raised_in_kinds.r) κs)
    → t.known ≡ false → x.ais ≡ true → raised_in_reads.Post κs (t, tt) x s → ⊥
unfolding stands_for
unknown_raises κs t x s k on e = true≢false (sym on ∙ ap (λ (r : Raised). r.ais) (rw k at e))
