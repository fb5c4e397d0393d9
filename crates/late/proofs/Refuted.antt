-- Answers that tempting readings give, shut out by the contracts of this crate. Assumes nothing.
use Prim.Native.Nat.{ℕ}
use mathlib.Core.Path.{◌≡◌, refl, sym, ap, ◌∙◌}
use mathlib.Core.Bool.{true, false}
use mathlib.Core.List.{List, ◌∷◌}
use native.Mathlib.Omega.{arith}
use lib.Dec.{eqb}
use lib.ListN.{get_or, replicate}
use Rattle.std.proofs.Common.{Option, Some, None, Ok}
use contract.Lifetimes.{Lfts}
use borrow.Fn.Kinds.{Dens, res_t, ended_of}
use denote.Triple.Clauses.{AtExit}
use Rattle.answer.proofs.Cond.{by_cond, not_so}
use Rattle.tandem.specs.Tandem.{marked_of}
use Rattle.late.specs.Late.{LateMarked, if_told, void_five, voided, pending_of, late_marked}
use Rattle.late.specs.declared.Late.{Late}
use Rattle.late.proofs.Answered.{is_told}
use Rattle.late.proofs.fresh_late.Kinds as fresh_late_kinds
use Rattle.late.proofs.fresh_late.Reads as fresh_late_reads
use Rattle.late.proofs.void.Kinds as void_kinds
use Rattle.late.proofs.void.Reads as void_reads
use Rattle.late.proofs.Late.pending.Kinds as pending_kinds
use Rattle.late.proofs.Late.pending.Reads as pending_reads
use Rattle.late.proofs.Late.pending_report.Kinds as pending_report_kinds
use Rattle.late.proofs.Late.pending_report.Reads as pending_report_reads
use Rattle.late.proofs.Late.next_report.Kinds as next_report_kinds
use Rattle.late.proofs.Late.next_report.Reads as next_report_reads
use Rattle.late.proofs.Late.mark.Kinds as mark_kinds
use Rattle.late.proofs.Late.mark.Reads as mark_reads

-- a second's number
abbrev first_of : Option (List ℕ) → ℕ
first_of (Some f) = get_or f 0 0
first_of None = 0

-- fresh_late: no frame stands in it
pub fresh_frame : (κs : Lfts 0) (a : Dens κs fresh_late_kinds.ps) (x : Late) (s : AtExit (ended_of 0 fresh_late_kinds.ps fresh_late_kinds.r) κs)
    → get_or x.pending 0 0 ≡ 1 → fresh_late_reads.Post κs a x s → ⊥
fresh_frame κs a x s one e = let z : ◌≡◌ {A = ℕ} 1 0 = sym one ∙ ap (λ (l : Late). get_or l.pending 0 0) e in omega arith

-- void: dIAE in the section keeps none of its near-end blocks
pub near_kept : (κs : Lfts 2) (a : Dens κs void_kinds.ps) (x : (res_t void_kinds.r κs).Denot) (s : AtExit (ended_of 2 void_kinds.ps void_kinds.r) κs)
    → a.0.now ≡ replicate 51 1 → a.1.0 ≡ record { iae = true; biae = false } → get_or s.0.now 11 0 ≡ 1 → void_reads.Post κs a x s → ⊥
unfolding voided void_five
near_kept κs a x s v section one e = let z : ◌≡◌ {A = ℕ} 1 0 = sym one ∙ ap (λ (l : List ℕ). get_or l 11 0) (rw (v, section) at e) in omega arith

-- and dBIAE none of its sum
pub sum_kept : (κs : Lfts 2) (a : Dens κs void_kinds.ps) (x : (res_t void_kinds.r κs).Denot) (s : AtExit (ended_of 2 void_kinds.ps void_kinds.r) κs)
    → a.0.now ≡ replicate 51 1 → a.1.0 ≡ record { iae = false; biae = true } → get_or s.0.now 15 0 ≡ 1 → void_reads.Post κs a x s → ⊥
unfolding voided void_five
sum_kept κs a x s v section one e = let z : ◌≡◌ {A = ℕ} 1 0 = sym one ∙ ap (λ (l : List ℕ). get_or l 15 0) (rw (v, section) at e) in omega arith

-- pending: its number is that of the seconds closed, and not of the open one
pub open_number : (κs : Lfts 1) (a : Dens κs pending_kinds.ps) (x : List ℕ) (s : AtExit (ended_of 1 pending_kinds.ps pending_kinds.r) κs)
    → a.0.now.tandem.base.seconds ≡ 1 → get_or x 0 0 ≡ 2 → pending_reads.Post κs a (Some x) s → ⊥
unfolding pending_of
open_number κs a x s one two e =
    let f : ◌≡◌ {A = Option (List ℕ)} (Some x) (Some (1 ∷ a.0.now.pending)) = rw one at e in
    let z : ◌≡◌ {A = ℕ} 2 1 = sym two ∙ ap first_of f in
    omega arith

-- pending_report: its number is that of the seconds closed, and not of the open one
pub pending_number_open : (κs : Lfts 1) (a : Dens κs pending_report_kinds.ps) (x : List ℕ) (s : AtExit (ended_of 1 pending_report_kinds.ps pending_report_kinds.r) κs)
    → a.0.now.tandem.base.seconds ≡ 1 → get_or x 0 0 ≡ 2 → pending_report_reads.Post κs a x s → ⊥
unfolding pending_of
pending_number_open κs a x s one two e =
    let z : ◌≡◌ {A = ℕ} 2 a.0.now.tandem.base.seconds = sym two ∙ ap (λ (l : List ℕ). get_or l 0 0) e in
    omega (arith, z, one)

-- next_report: its number is that of the seconds closed, and not of the open one
pub next_number_open : (κs : Lfts 1) (a : Dens κs next_report_kinds.ps) (x : List ℕ) (s : AtExit (ended_of 1 next_report_kinds.ps next_report_kinds.r) κs)
    → a.0.now.tandem.base.seconds ≡ 1 → get_or x 0 0 ≡ 2 → next_report_reads.Post κs a x s → ⊥
next_number_open κs a x s one two e =
    let z : ◌≡◌ {A = ℕ} 2 a.0.now.tandem.base.seconds = sym two ∙ ap (λ (l : List ℕ). get_or l 0 0) e in
    omega (arith, z, one)

-- mark: the first one tells nothing
pub first_told : (κs : Lfts 1) (a : Dens κs mark_kinds.ps) (x : List ℕ) (s : AtExit (ended_of 1 mark_kinds.ps mark_kinds.r) κs)
    → a.0.now.tandem.base.seconds ≡ 0 → mark_reads.Post κs a (Ok (Some x)) s → ⊥
unfolding late_marked
first_told κs a x s zero e =
    let m = late_marked a.0.now in
    let f : m.told ≡ false = by_cond (λ (m : LateMarked). m.told ≡ false) (eqb (marked_of a.0.now.tandem).refusal 0) (λ _. rw zero) (λ _. refl) in
    let g : ◌≡◌ {A = Option (List ℕ)} (Some x) (if_told m.told m.figures) = (mark_reads.post-apart κs a (Ok (Some x)) s e).figures in
    not_so (ap is_told (rw f at g))
