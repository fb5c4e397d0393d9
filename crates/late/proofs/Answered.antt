-- The contracts say neither more nor less than late_marked and pending_of: an answer that meets them, written as a record with the refusal's number, is what these say;
-- where no second is told, the figures are those of next_report and pending_report. Assumes nothing.
use Rattle.std.proofs.Common.{◌≡◌, refl, ℕ, zero, suc, ◌<◌, cond, arith, List, Bool, true, false, replicate, Option, Some, None, Result, Ok, Err, IfOk, OnOk, OnErr}
use Rattle.std.specs.Prelude.{eqb}
use contract.Lifetimes.{Lfts}
use borrow.Fn.Kinds.{Dens, res_t, ended_of}
use denote.Triple.Clauses.{AtExit}
use Rattle.answer.specs.declared.Refusal.{Refusal}
use Rattle.answer.specs.Refusal.{number_of, said}
use Rattle.answer.proofs.Numbers.{number_above}
use Rattle.tandem.specs.Tandem.{marked_of}
use Rattle.late.specs.Late.{LateMarked, PendingSecond, if_told, pending_of, next_report, late_marked}
use Rattle.late.specs.declared.Late.{Late}
use Rattle.late.proofs.Late.pending.Kinds as pending_kinds
use Rattle.late.proofs.Late.pending.Reads as pending_reads
use Rattle.late.proofs.Late.mark.Kinds as mark_kinds
use Rattle.late.proofs.Late.mark.Reads as mark_reads

-- whether a second is told
abbrev pub is_told : Option (List ℕ) → Bool
is_told (Some f) = true
is_told None = false

-- an accepted or refused mark as a record, given the figures that stand for none
abbrev pub late_marked_by : List ℕ → Result (Option (List ℕ)) Refusal → Late → LateMarked
late_marked_by none (Ok (Some f)) s = record { refusal = 0; told = true; figures = f; late = s }
late_marked_by none (Ok None) s = record { refusal = 0; told = false; figures = none; late = s }
late_marked_by none (Err e) s = record { refusal = number_of e; told = false; figures = replicate 52 0; late = s }

never : {X : Type 0} (e : Refusal) → number_of e ≡ 0 → X
never e p = let h : 0 < number_of e = number_above e in absurd (omega (arith, h))

-- an accepted mark has no refusal's number
refused : {X : Type 0} (n : ℕ) → eqb n 0 ≡ false → 0 ≡ n → X
refused zero e p = absurd cc
refused (suc n) e p = absurd cc

marked_as : (x : Result (Option (List ℕ)) Refusal) (s b f : Late) (t told : Bool) (n : ℕ) (q : List ℕ) → eqb n 0 ≡ t
    → let r : LateMarked = cond t (record { refusal = 0; told = told; figures = q; late = f }) (record { refusal = n; told = false; figures = replicate 52 0; late = b }) in
    said x ≡ r.refusal → IfOk x (λ y. y ≡ if_told r.told r.figures) → OnOk x (s ≡ r.late) → OnErr x (s ≡ b) → late_marked_by q x s ≡ r
marked_as (Ok y) s b f true true n q t p i g h = rw (i, g)
marked_as (Ok y) s b f true false n q t p i g h = rw (i, g)
marked_as (Ok y) s b f false told n q t p i g h = refused n t p
marked_as (Err e) s b f true told n q t p i g h = never e p
marked_as (Err e) s b f false told n q t p i g h = rw (p, h)

pub mark_is : (κs : Lfts 1) (a : Dens κs mark_kinds.ps) (x : (res_t mark_kinds.r κs).Denot) (s : AtExit (ended_of 1 mark_kinds.ps mark_kinds.r) κs)
    → mark_reads.Post κs a x s → late_marked_by (next_report a.0.now) x s.0.now ≡ late_marked a.0.now
unfolding late_marked
mark_is κs a x s e =
    let c = mark_reads.post-apart κs a x s e in
    marked_as x _ _ _ (eqb (marked_of a.0.now.tandem).refusal 0) _ _ _ refl c.refusal c.figures c.ok c.err

-- what is pending as a record, given the figures that stand for none
abbrev pub pending_by : List ℕ → Option (List ℕ) → PendingSecond
pending_by none (Some f) = record { told = true; figures = f }
pending_by none None = record { told = false; figures = none }

pending_as : (x : Option (List ℕ)) (told : Bool) (q : List ℕ) → x ≡ if_told told q → pending_by q x ≡ record { told = told; figures = q }
pending_as x true q p = rw p
pending_as x false q p = rw p

pub pending_is : (κs : Lfts 1) (a : Dens κs pending_kinds.ps) (x : (res_t pending_kinds.r κs).Denot) (s : AtExit (ended_of 1 pending_kinds.ps pending_kinds.r) κs)
    → pending_reads.Post κs a x s → pending_by (pending_of a.0.now).figures x ≡ pending_of a.0.now
pending_is κs a x s e = pending_as x (pending_of a.0.now).told (pending_of a.0.now).figures e
