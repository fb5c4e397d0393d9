-- Wrong answers that the contracts of the calls shut out, each for one input. Assumes nothing.
use mathlib.Core.Path.{◌≡◌, ap, sym, ◌∙◌}
use mathlib.Core.List.{List, [], ◌∷◌}
use Prim.Native.Nat.{ℕ}
use native.Mathlib.Omega.{arith}
use contract.Lifetimes.{Lfts}
use borrow.Fn.Kinds.{Dens, ended_of}
use denote.Triple.Clauses.{AtExit}
use lib.ListN.{get_or}
use Rattle.slots.specs.Image.{late_sound}
use Rattle.card.specs.Calls.{fresh_refusal, level_refusal, call_refusal, call_answer, call_sup, mark_refusal, mark_record, trace_refused, told_refusal, told_answer, level_trace_refused, pending_refusal, pending_answer}
use Rattle.card.proofs.otn_fresh.Kinds as otn_fresh_kinds
use Rattle.card.proofs.otn_fresh.Reads as otn_fresh_reads
use Rattle.card.proofs.otn_level.Kinds as otn_level_kinds
use Rattle.card.proofs.otn_level.Reads as otn_level_reads
use Rattle.card.proofs.otn_step.Kinds as otn_step_kinds
use Rattle.card.proofs.otn_step.Reads as otn_step_reads
use Rattle.card.proofs.otn_step_levels.Kinds as otn_step_levels_kinds
use Rattle.card.proofs.otn_step_levels.Reads as otn_step_levels_reads
use Rattle.card.proofs.otn_mark.Kinds as otn_mark_kinds
use Rattle.card.proofs.otn_mark.Reads as otn_mark_reads
use Rattle.card.proofs.otn_pending.Kinds as otn_pending_kinds
use Rattle.card.proofs.otn_pending.Reads as otn_pending_reads
use Rattle.card.proofs.otn_trace.Kinds as otn_trace_kinds
use Rattle.card.proofs.otn_trace.Reads as otn_trace_reads
use Rattle.card.proofs.otn_level_report.Kinds as otn_level_report_kinds
use Rattle.card.proofs.otn_level_report.Reads as otn_level_report_reads
use Rattle.card.proofs.otn_level_trace.Kinds as otn_level_trace_kinds
use Rattle.card.proofs.otn_level_trace.Reads as otn_level_trace_reads

-- otn_fresh: no bytes are not taken for a supervisor's
pub fresh_any_length : (κs : Lfts 3) (a : Dens κs otn_fresh_kinds.ps) (s : AtExit (ended_of 3 otn_fresh_kinds.ps otn_fresh_kinds.r) κs)
    → a.0.now ≡ [] → otn_fresh_reads.Post κs a 0 s → ⊥
unfolding fresh_refusal
fresh_any_length κs a s b e = let z : ◌≡◌ {A = ℕ} 0 17 = rw b at e.answers in omega arith

-- otn_level: 17 is checked before 18
pub level_eighteen_first : (κs : Lfts 2) (a : Dens κs otn_level_kinds.ps) (s : AtExit (ended_of 2 otn_level_kinds.ps otn_level_kinds.r) κs)
    → a.0.now ≡ [] → a.1.0 ≡ 7 → otn_level_reads.Post κs a 18 s → ⊥
unfolding level_refusal late_sound
level_eighteen_first κs a s b n e = let z : ◌≡◌ {A = ℕ} 18 17 = rw b at e.answers in omega arith

-- otn_step: 17 is checked before 1
pub step_one_first : (κs : Lfts 2) (a : Dens κs otn_step_kinds.ps) (s : AtExit (ended_of 2 otn_step_kinds.ps otn_step_kinds.r) κs)
    → a.0.now ≡ [] → a.1.0.now ≡ [] → otn_step_reads.Post κs a 1 s → ⊥
unfolding call_answer call_refusal late_sound
step_one_first κs a s b o e = let z : ◌≡◌ {A = ℕ} 1 17 = rw b at e.answers in omega arith

-- otn_step_levels: a refusal writes no byte of the supervisor
pub levels_written_on_17 : (κs : Lfts 2) (a : Dens κs otn_step_levels_kinds.ps) (x : ℕ) (s : AtExit (ended_of 2 otn_step_levels_kinds.ps otn_step_levels_kinds.r) κs)
    → a.0.now ≡ 7 ∷ [] → s.0.now ≡ 0 ∷ [] → otn_step_levels_reads.Post κs a x s → ⊥
unfolding call_sup call_refusal late_sound
levels_written_on_17 κs a x s b end e =
    let h : ◌≡◌ {A = List ℕ} (0 ∷ []) (7 ∷ []) = sym end ∙ rw b at e.holds in
    let z : ◌≡◌ {A = ℕ} 0 7 = ap (λ (l : List ℕ). get_or l 0 0) h in
    omega arith

-- otn_mark: a refusal writes no byte of the record
pub mark_written_on_17 : (κs : Lfts 2) (a : Dens κs otn_mark_kinds.ps) (s : AtExit (ended_of 2 otn_mark_kinds.ps otn_mark_kinds.r) κs)
    → a.0.now ≡ [] → a.1.0.now ≡ 7 ∷ [] → s.1.0.now ≡ 0 ∷ [] → otn_mark_reads.Post κs a 17 s → ⊥
unfolding mark_record mark_refusal late_sound
mark_written_on_17 κs a s b o end e =
    let h : ◌≡◌ {A = List ℕ} (0 ∷ []) (7 ∷ []) = sym end ∙ rw (b, o) at e.fills in
    let z : ◌≡◌ {A = ℕ} 0 7 = ap (λ (l : List ℕ). get_or l 0 0) h in
    omega arith

-- otn_pending: bytes that are no supervisor are not told as one with none pending
pub none_pending_on_17 : (κs : Lfts 2) (a : Dens κs otn_pending_kinds.ps) (s : AtExit (ended_of 2 otn_pending_kinds.ps otn_pending_kinds.r) κs)
    → a.0.now ≡ [] → otn_pending_reads.Post κs a 0 s → ⊥
unfolding pending_answer pending_refusal late_sound
none_pending_on_17 κs a s b e = let z : ◌≡◌ {A = ℕ} 0 17 = rw b at e.answers in omega arith

-- otn_trace: 17 is checked before 12
pub trace_twelve_first : (κs : Lfts 2) (a : Dens κs otn_trace_kinds.ps) (s : AtExit (ended_of 2 otn_trace_kinds.ps otn_trace_kinds.r) κs)
    → a.0.now ≡ [] → a.1.1.0.now ≡ [] → otn_trace_reads.Post κs a 12 s → ⊥
unfolding trace_refused late_sound
trace_twelve_first κs a s b o e = let z : ◌≡◌ {A = ℕ} 12 17 = rw b at e.answers in omega arith

-- otn_level_report: bytes that are no supervisor are not told as a level that is not provisioned
pub told_of_nothing : (κs : Lfts 1) (a : Dens κs otn_level_report_kinds.ps) (s : AtExit (ended_of 1 otn_level_report_kinds.ps otn_level_report_kinds.r) κs)
    → a.0.now ≡ [] → otn_level_report_reads.Post κs a 0 s → ⊥
unfolding told_answer told_refusal late_sound
told_of_nothing κs a s b e = let z : ◌≡◌ {A = ℕ} 0 17 = rw b at e.answers in omega arith

-- otn_level_trace: 17 is checked before 13
pub level_trace_thirteen_first : (κs : Lfts 2) (a : Dens κs otn_level_trace_kinds.ps) (s : AtExit (ended_of 2 otn_level_trace_kinds.ps otn_level_trace_kinds.r) κs)
    → a.0.now ≡ [] → otn_level_trace_reads.Post κs a 13 s → ⊥
unfolding level_trace_refused late_sound
level_trace_thirteen_first κs a s b e = let z : ◌≡◌ {A = ℕ} 13 17 = rw b at e.answers in omega arith
