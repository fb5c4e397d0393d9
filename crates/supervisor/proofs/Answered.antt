-- The contracts say neither more nor less than provision_of, step_of, mark_of and traced_of: an answer that meets them, written as a record with the
-- refusal's number, is what these say. Assumes nothing.
use Rattle.std.proofs.Common.{◌≡◌, ℕ, ◌<◌, cond, sym, arith, List, Bool, true, false, replicate, Bor, Result, Ok, Err, IfOk, OnOk, OnErr}
use Rattle.std.specs.Prelude.{eqb, ltb}
use contract.Lifetimes.{Lfts}
use borrow.Fn.Kinds.{Dens, res_t, ended_of}
use denote.Triple.Clauses.{AtExit}
use Rattle.answer.specs.declared.Refusal.{Refusal}
use Rattle.answer.specs.Refusal.{number_of, said}
use Rattle.answer.proofs.Numbers.{number_above}
use Rattle.answer.proofs.Same.{cond_number}
use Rattle.causes.specs.declared.Report.{Report}
use Rattle.causes.specs.Causes.{no_report}
use Rattle.supervisor.specs.declared.Supervisor.{Supervisor}
use Rattle.supervisor.specs.Supervisor.{Provisioned, Stepped, Marked, Traced, blank_supervisor, provision_of, step_of, mark_refusal, mark_of, traced_of}
use Rattle.supervisor.proofs.Supervisor.provision.Kinds as provision_kinds
use Rattle.supervisor.proofs.Supervisor.provision.Reads as provision_reads
use Rattle.supervisor.proofs.Supervisor.step.Kinds as step_kinds
use Rattle.supervisor.proofs.Supervisor.step.Reads as step_reads
use Rattle.supervisor.proofs.Supervisor.mark.Kinds as mark_kinds
use Rattle.supervisor.proofs.Supervisor.mark.Reads as mark_reads
use Rattle.supervisor.proofs.Supervisor.trace.Kinds as trace_kinds
use Rattle.supervisor.proofs.Supervisor.trace.Reads as trace_reads

-- the answers as records; a refused provisioning makes no supervisor, and the blank one stands for it
abbrev pub provisioned : Result Supervisor Refusal → Provisioned
provisioned (Ok s) = record { refusal = 0; supervisor = s }
provisioned (Err e) = record { refusal = number_of e; supervisor = blank_supervisor }

abbrev pub stepped : Result Report Refusal → Supervisor → Stepped
stepped (Ok r) s = record { refusal = 0; report = r; supervisor = s }
stepped (Err e) s = record { refusal = number_of e; report = no_report; supervisor = s }

abbrev pub marked : Result (List ℕ) Refusal → Supervisor → Marked
marked (Ok f) s = record { refusal = 0; figures = f; supervisor = s }
marked (Err e) s = record { refusal = number_of e; figures = replicate 22 0; supervisor = s }

abbrev pub traced : Result (Bor (List ℕ)) Refusal → Traced
traced (Ok t) = record { refusal = 0; trace = t.now }
traced (Err e) = record { refusal = number_of e; trace = replicate 64 0 }

-- each by the number that the answer says
provisioned_by : (x : Result Supervisor Refusal) (n : ℕ) (f : Supervisor) → said x ≡ n → IfOk x (λ s. s ≡ f)
    → provisioned x ≡ cond (eqb n 0) (record { refusal = 0; supervisor = f }) (record { refusal = n; supervisor = blank_supervisor })
provisioned_by (Ok s) n f p g = rw (sym p, g)
provisioned_by (Err e) n f p g = rw (sym p) (sym (cond_number e _ _))

stepped_by : (x : Result Report Refusal) (s b f : Supervisor) (n : ℕ) (r : Report) → said x ≡ n → IfOk x (λ y. y ≡ r) → OnOk x (s ≡ f) → OnErr x (s ≡ b)
    → stepped x s ≡ cond (eqb n 0) (record { refusal = 0; report = r; supervisor = f }) (record { refusal = n; report = no_report; supervisor = b })
stepped_by (Ok y) s b f n r p g h k = rw (sym p, g, h)
stepped_by (Err e) s b f n r p g h k = rw (sym p, k) (sym (cond_number e _ _))

marked_by : (x : Result (List ℕ) Refusal) (s b f : Supervisor) (t : Bool) (r : List ℕ) → said x ≡ cond t 0 4 → IfOk x (λ y. y ≡ r) → OnOk x (s ≡ f) → OnErr x (s ≡ b)
    → marked x s ≡ cond t (record { refusal = 0; figures = r; supervisor = f }) (record { refusal = 4; figures = replicate 22 0; supervisor = b })
marked_by (Ok y) s b f true r p g h k = rw (g, h)
marked_by (Ok y) s b f false r p g h k = let q : ◌≡◌ {A = ℕ} 0 4 = p in absurd (omega arith)
marked_by (Err e) s b f true r p g h k = let q : 0 < number_of e = number_above e in absurd (omega (arith, p, q))
marked_by (Err e) s b f false r p g h k = rw (p, k)

traced_by : (x : Result (Bor (List ℕ)) Refusal) (n : ℕ) (f : List ℕ) → said x ≡ n → IfOk x (λ t. t.now ≡ f)
    → traced x ≡ cond (eqb n 0) (record { refusal = 0; trace = f }) (record { refusal = n; trace = replicate 64 0 })
traced_by (Ok t) n f p g = rw (sym p, g)
traced_by (Err e) n f p g = rw (sym p) (sym (cond_number e _ _))

-- provision, step, mark and trace
pub provision_is : (κs : Lfts 4) (a : Dens κs provision_kinds.ps) (x : (res_t provision_kinds.r κs).Denot) (s : AtExit (ended_of 4 provision_kinds.ps provision_kinds.r) κs)
    → provision_reads.Post κs a x s → provisioned x ≡ provision_of a.0 a.1.0.now a.1.1.0.now a.1.1.1.0.now a.1.1.1.1.0.now
unfolding provision_of
provision_is κs a x s e =
    let c = provision_reads.post-apart κs a x s e in
    provisioned_by x _ _ c.refusal c.ok

pub step_is : (κs : Lfts 2) (a : Dens κs step_kinds.ps) (x : (res_t step_kinds.r κs).Denot) (s : AtExit (ended_of 2 step_kinds.ps step_kinds.r) κs)
    → step_reads.Post κs a x s → stepped x s.0.now ≡ step_of a.0.now a.1.0.now a.1.1.0 a.1.1.1.0 a.1.1.1.1.0
unfolding step_of
step_is κs a x s e =
    let c = step_reads.post-apart κs a x s e in
    stepped_by x _ _ _ _ _ c.refusal c.report c.ok c.err

pub mark_is : (κs : Lfts 1) (a : Dens κs mark_kinds.ps) (x : (res_t mark_kinds.r κs).Denot) (s : AtExit (ended_of 1 mark_kinds.ps mark_kinds.r) κs)
    → mark_reads.Post κs a x s → marked x s.0.now ≡ mark_of a.0.now
unfolding mark_of mark_refusal
mark_is κs a x s e =
    let c = mark_reads.post-apart κs a x s e in
    marked_by x _ _ _ (ltb a.0.now.seconds 4294967295) _ c.refusal c.figures c.ok c.err

pub trace_is : (κs : Lfts 1) (a : Dens κs trace_kinds.ps) (x : (res_t trace_kinds.r κs).Denot) (s : AtExit (ended_of 1 trace_kinds.ps trace_kinds.r) κs)
    → trace_reads.Post κs a x s → traced x ≡ traced_of a.0.now a.1.0
unfolding traced_of
trace_is κs a x s e =
    let c = trace_reads.post-apart κs a x s e in
    traced_by x _ _ c.refusal c.ok
