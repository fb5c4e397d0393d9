-- The contracts say neither more nor less than give_of, recorded_of, framed_of, marked_of, level_report and level_traced: an answer that meets them, written
-- as a record with the refusal's number, is what these say. Assumes nothing.
use Rattle.std.proofs.Common.{◌≡◌, ℕ, ◌-◌, get_or, ◌<◌, cond, arith, List, Bool, true, false, replicate, Bor, Result, Ok, Err, IfOk, OnOk, OnErr}
use contract.Lifetimes.{Lfts}
use borrow.Fn.Kinds.{Dens, res_t, ended_of}
use denote.Triple.Clauses.{AtExit}
use Rattle.std.specs.Prelude.{eqb, leb, ◌&&◌, [], ◌∷◌}
use Rattle.answer.specs.Checks.{check, first_of}
use Rattle.answer.specs.declared.Refusal.{Refusal}
use Rattle.answer.specs.Refusal.{number_of, said}
use Rattle.answer.proofs.Numbers.{number_above}
use Rattle.causes.specs.declared.Report.{Report}
use Rattle.causes.specs.Causes.{no_report}
use Rattle.level.specs.declared.LevelStands.{LevelStands}
use Rattle.level.specs.Level.{level_actions, level_causes}
use Rattle.supervisor.specs.Supervisor.{Traced, mark_of}
use Rattle.tandem.specs.Levels.{blank_level, level_at}
use Rattle.tandem.specs.Tandem.{Given, TandemStepped, TandemMarked, LevelReport, give_refusal, record_refusal, with_level, given_by, give_of, recorded_of, frame_refusal, framed_of, marked_of, nothing, level_shown, ssf_now, level_report, level_traced, reported, told}
use Rattle.tandem.specs.declared.Level.{Level}
use Rattle.tandem.specs.declared.Tandem.{Tandem}
use Rattle.tandem.specs.declared.TandemReport.{TandemReport}
use Rattle.tandem.specs.declared.LevelReport as accepted
use Rattle.tandem.proofs.Tandem.give.Kinds as give_kinds
use Rattle.tandem.proofs.Tandem.give.Reads as give_reads
use Rattle.tandem.proofs.Tandem.give_record.Kinds as give_record_kinds
use Rattle.tandem.proofs.Tandem.give_record.Reads as give_record_reads
use Rattle.tandem.proofs.Tandem.step.Kinds as step_kinds
use Rattle.tandem.proofs.Tandem.step.Reads as step_reads
use Rattle.tandem.proofs.Tandem.mark.Kinds as mark_kinds
use Rattle.tandem.proofs.Tandem.mark.Reads as mark_reads
use Rattle.tandem.proofs.Tandem.level_report.Kinds as level_report_kinds
use Rattle.tandem.proofs.Tandem.level_report.Reads as level_report_reads
use Rattle.tandem.proofs.Tandem.level_trace.Kinds as level_trace_kinds
use Rattle.tandem.proofs.Tandem.level_trace.Reads as level_trace_reads

-- the answers as records; of a level that is none of the six nothing is told
abbrev pub given : Result (Unit {0}) Refusal → Tandem → Given
given (Ok u) t = record { refusal = 0; tandem = t }
given (Err e) t = record { refusal = number_of e; tandem = t }

abbrev pub stepped : Result TandemReport Refusal → Tandem → TandemStepped
stepped (Ok r) t = record { refusal = 0; report = r.report; stands = r.stands; tandem = t }
stepped (Err e) t = record { refusal = number_of e; report = no_report; stands = replicate 6 nothing; tandem = t }

abbrev pub marked : Result (List ℕ) Refusal → Tandem → TandemMarked
marked (Ok f) t = record { refusal = 0; figures = f; tandem = t }
marked (Err e) t = record { refusal = number_of e; figures = replicate 52 0; tandem = t }

abbrev pub level_told : Result accepted.LevelReport Refusal → LevelReport
level_told (Ok r) = record { refusal = 0; given = r.given; stands = r.stands; actions = r.actions; causes = r.causes }
level_told (Err e) = record { refusal = number_of e; given = false; stands = nothing; actions = level_actions nothing; causes = level_causes nothing }

abbrev pub traced : Result (Bor (List ℕ)) Refusal → Traced
traced (Ok t) = record { refusal = 0; trace = t.now }
traced (Err e) = record { refusal = number_of e; trace = replicate 64 0 }

-- no refusal says 0
never : {X : Type 0} (e : Refusal) → number_of e ≡ 0 → X
never e p = let h : 0 < number_of e = number_above e in absurd (omega (arith, h))

-- each by the test that accepts
given_as : (x : Result (Unit {0}) Refusal) (s b f : Tandem) (t : Bool) (n : ℕ)
    → let r : Given = cond t (record { refusal = 0; tandem = f }) (record { refusal = n; tandem = b }) in
    said x ≡ r.refusal → OnOk x (s ≡ r.tandem) → OnErr x (s ≡ b) → given x s ≡ r
given_as (Ok u) s b f true n p g h = rw g
given_as (Ok u) s b f false n p g h = rw (← p, g)
given_as (Err e) s b f true n p g h = never e p
given_as (Err e) s b f false n p g h = rw (p, h)

stepped_as : (x : Result TandemReport Refusal) (s b f : Tandem) (t : Bool) (n : ℕ) (q : Report) (d : List LevelStands)
    → let r : TandemStepped = cond t (record { refusal = 0; report = q; stands = d; tandem = f }) (record { refusal = n; report = no_report; stands = replicate 6 nothing; tandem = b }) in
    said x ≡ r.refusal → IfOk x (λ y. y ≡ reported r) → OnOk x (s ≡ r.tandem) → OnErr x (s ≡ b) → stepped x s ≡ r
stepped_as (Ok y) s b f true n q d p i g h = rw (i, g)
stepped_as (Ok y) s b f false n q d p i g h = rw (← p, i, g)
stepped_as (Err e) s b f true n q d p i g h = never e p
stepped_as (Err e) s b f false n q d p i g h = rw (p, h)

marked_as : (x : Result (List ℕ) Refusal) (s b f : Tandem) (t : Bool) (n : ℕ) (q : List ℕ)
    → let r : TandemMarked = cond t (record { refusal = 0; figures = q; tandem = f }) (record { refusal = n; figures = replicate 52 0; tandem = b }) in
    said x ≡ r.refusal → IfOk x (λ y. y ≡ r.figures) → OnOk x (s ≡ r.tandem) → OnErr x (s ≡ b) → marked x s ≡ r
marked_as (Ok y) s b f true n q p i g h = rw (i, g)
marked_as (Ok y) s b f false n q p i g h = rw (← p, i, g)
marked_as (Err e) s b f true n q p i g h = never e p
marked_as (Err e) s b f false n q p i g h = rw (p, h)

traced_as : (x : Result (Bor (List ℕ)) Refusal) (t : Bool) (n : ℕ) (q : List ℕ)
    → let r : Traced = cond t (record { refusal = 0; trace = q }) (record { refusal = n; trace = replicate 64 0 }) in
    said x ≡ r.refusal → IfOk x (λ y. y.now ≡ r.trace) → traced x ≡ r
traced_as (Ok y) true n q p i = rw i
traced_as (Ok y) false n q p i = rw (← p, i)
traced_as (Err e) true n q p i = never e p
traced_as (Err e) false n q p i = rw p

-- a provisioning from C and by a record, a frame, a mark, what is told of a level, and its trace
pub give_is : (κs : Lfts 3) (a : Dens κs give_kinds.ps) (x : (res_t give_kinds.r κs).Denot) (s : AtExit (ended_of 3 give_kinds.ps give_kinds.r) κs)
    → give_reads.Post κs a x s → given x s.0.now ≡ give_of a.0.now a.1.0 a.1.1.0.now a.1.1.1.0.now
unfolding given_by
give_is κs a x s e =
    let c = give_reads.post-apart κs a x s e in
    let t = a.0.now in
    let n = a.1.0 in
    let r = a.1.1.0.now in
    let names = a.1.1.1.0.now in
    given_as x _ t (with_level t n r names) (eqb (give_refusal t n r names) 0) (give_refusal t n r names) c.refusal c.ok c.err

pub give_record_is : (κs : Lfts 3) (a : Dens κs give_record_kinds.ps) (x : (res_t give_record_kinds.r κs).Denot) (s : AtExit (ended_of 3 give_record_kinds.ps give_record_kinds.r) κs)
    → give_record_reads.Post κs a x s → given x s.0.now ≡ recorded_of a.0.now a.1.0 a.1.1.0.now a.1.1.1.0.now
unfolding given_by
give_record_is κs a x s e =
    let c = give_record_reads.post-apart κs a x s e in
    let t = a.0.now in
    let n = a.1.0 in
    let r = a.1.1.0.now in
    let names = a.1.1.1.0.now in
    given_as x _ t (with_level t n r names) (eqb (record_refusal t n r names) 0) (record_refusal t n r names) c.refusal c.ok c.err

pub step_is : (κs : Lfts 3) (a : Dens κs step_kinds.ps) (x : (res_t step_kinds.r κs).Denot) (s : AtExit (ended_of 3 step_kinds.ps step_kinds.r) κs)
    → step_reads.Post κs a x s → stepped x s.0.now ≡ framed_of a.0.now a.1.0.now a.1.1.0 a.1.1.1.0 a.1.1.1.1.0 a.1.1.1.1.1.0.now
unfolding framed_of
step_is κs a x s e =
    let c = step_reads.post-apart κs a x s e in
    stepped_as x _ _ _ (eqb (frame_refusal a.0.now a.1.0.now a.1.1.0 a.1.1.1.0 a.1.1.1.1.0 a.1.1.1.1.1.0.now) 0) _ _ _ c.refusal c.report c.ok c.err

pub mark_is : (κs : Lfts 1) (a : Dens κs mark_kinds.ps) (x : (res_t mark_kinds.r κs).Denot) (s : AtExit (ended_of 1 mark_kinds.ps mark_kinds.r) κs)
    → mark_reads.Post κs a x s → marked x s.0.now ≡ marked_of a.0.now
unfolding marked_of
mark_is κs a x s e =
    let c = mark_reads.post-apart κs a x s e in
    marked_as x _ _ _ (eqb (mark_of a.0.now.base).refusal 0) _ _ c.refusal c.figures c.ok c.err

-- by the two tests of a level's number
told_by : (low high : Bool) (l : Level) (ssf : Bool) (e : Refusal)
    → let v : Level = cond low (cond high l blank_level) blank_level in
    number_of e ≡ cond (low && high) 0 18
    → level_told (Err e)
    ≡ record { refusal = cond (low && high) 0 18; given = v.given; stands = level_shown v ssf; actions = level_actions (level_shown v ssf); causes = level_causes (level_shown v ssf) }
unfolding level_shown
told_by true true l ssf e p = never e p
told_by true false l ssf e p = rw p
told_by false high l ssf e p = rw p

told_as : (x : Result accepted.LevelReport Refusal) (t : Tandem) (n : ℕ) → said x ≡ (level_report t n).refusal → IfOk x (λ r. r ≡ told (level_report t n))
    → level_told x ≡ level_report t n
unfolding level_report
told_as (Ok r) t n p i = rw (← p, i)
told_as (Err e) t n p i = told_by (leb 1 n) (leb n 6) (get_or t.levels (n - 1) blank_level) (ssf_now t.base t.flags) e p

pub level_report_is : (κs : Lfts 1) (a : Dens κs level_report_kinds.ps) (x : (res_t level_report_kinds.r κs).Denot) (s : AtExit (ended_of 1 level_report_kinds.ps level_report_kinds.r) κs)
    → level_report_reads.Post κs a x s → level_told x ≡ level_report a.0.now a.1.0
level_report_is κs a x s e =
    let c = level_report_reads.post-apart κs a x s e in
    told_as x a.0.now a.1.0 c.refusal c.report

pub level_trace_is : (κs : Lfts 1) (a : Dens κs level_trace_kinds.ps) (x : (res_t level_trace_kinds.r κs).Denot) (s : AtExit (ended_of 1 level_trace_kinds.ps level_trace_kinds.r) κs)
    → level_trace_reads.Post κs a x s → traced x ≡ level_traced a.0.now a.1.0
unfolding level_traced
level_trace_is κs a x s e =
    let c = level_trace_reads.post-apart κs a x s e in
    let l = level_at a.0.now.levels a.1.0 in
    let n = first_of (check 13 (l.given && l.state.layer.known) ∷ []) in
    traced_as x (eqb n 0) n l.state.layer.accepted c.refusal c.trace
