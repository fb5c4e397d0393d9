-- Answers that tempting readings give, shut out by the contracts of this crate. Assumes nothing.
use Prim.Native.Nat.{ℕ}
use mathlib.Core.Path.{◌≡◌, sym, ap, ◌∙◌}
use mathlib.Core.Bool.{true}
use mathlib.Core.List.{[], ◌∷◌}
use native.Mathlib.Omega.{arith}
use lib.ListN.{length, get_or, replicate}
use contract.Lifetimes.{Lfts}
use borrow.Fn.Kinds.{Dens, res_t, ended_of}
use denote.Triple.Clauses.{AtExit}
use Rattle.arrayvec.specs.ArrayVec.{ArrayVec}
use Rattle.answer.specs.Refusal.{said}
use Rattle.answer.proofs.Cond.{not_so}
use Rattle.settings.specs.Settings.{ceiling_of, thr_good, degm_good}
use Rattle.level.specs.declared.LevelStands.{LevelStands}
use Rattle.supervisor.specs.Supervisor.{mark_of}
use Rattle.tandem.specs.Levels.{blank_level, given_groups, low_to}
use Rattle.tandem.specs.Tandem.{give_refusal, record_refusal, given_by, refusal_by, frame_refusal, framed_of, marked_of, level_report, level_traced}
use Rattle.tandem.specs.declared.Listed.{Listed}
use Rattle.tandem.specs.declared.Tandem.{Tandem}
use Rattle.tandem.proofs.fresh_tandem.Kinds as fresh_tandem_kinds
use Rattle.tandem.proofs.fresh_tandem.Reads as fresh_tandem_reads
use Rattle.tandem.proofs.Tandem.give.Kinds as give_kinds
use Rattle.tandem.proofs.Tandem.give.Reads as give_reads
use Rattle.tandem.proofs.Tandem.give_record.Kinds as give_record_kinds
use Rattle.tandem.proofs.Tandem.give_record.Reads as give_record_reads
use Rattle.tandem.proofs.frame_accepted.Kinds as frame_accepted_kinds
use Rattle.tandem.proofs.frame_accepted.Reads as frame_accepted_reads
use Rattle.tandem.proofs.Tandem.step.Kinds as step_kinds
use Rattle.tandem.proofs.Tandem.step.Reads as step_reads
use Rattle.tandem.proofs.nothing_stands.Kinds as nothing_stands_kinds
use Rattle.tandem.proofs.nothing_stands.Reads as nothing_stands_reads
use Rattle.tandem.proofs.Tandem.mark.Kinds as mark_kinds
use Rattle.tandem.proofs.Tandem.mark.Reads as mark_reads
use Rattle.tandem.proofs.listed_figures.Kinds as listed_figures_kinds
use Rattle.tandem.proofs.listed_figures.Reads as listed_figures_reads
use Rattle.tandem.proofs.listed_array.Kinds as listed_array_kinds
use Rattle.tandem.proofs.listed_array.Reads as listed_array_reads
use Rattle.tandem.proofs.Tandem.level_report.Kinds as level_report_kinds
use Rattle.tandem.proofs.Tandem.level_report.Reads as level_report_reads
use Rattle.tandem.proofs.Tandem.level_trace.Kinds as level_trace_kinds
use Rattle.tandem.proofs.Tandem.level_trace.Reads as level_trace_reads

-- no level is provisioned at first
pub fresh_monitors : (κs : Lfts 0) (a : Dens κs fresh_tandem_kinds.ps) (x : Tandem) (s : AtExit (ended_of 0 fresh_tandem_kinds.ps fresh_tandem_kinds.r) κs)
    → (get_or x.levels 5 blank_level).given ≡ true → fresh_tandem_reads.Post κs a x s → ⊥
fresh_monitors κs a x s given e = not_so (sym given ∙ ap (λ (t : Tandem). (get_or t.levels 5 blank_level).given) e)

-- from C a level 7 with a DEGM of 0 is 7: the tests go in the order of their numbers
pub level_first : (κs : Lfts 3) (a : Dens κs give_kinds.ps) (x : (res_t give_kinds.r κs).Denot) (s : AtExit (ended_of 3 give_kinds.ps give_kinds.r) κs)
    → a.0.now.base.settings.k ≡ 1 → a.1.0 ≡ 7 → a.1.1.0.now.thr ≡ 1 → a.1.1.0.now.degm ≡ 0 → said x ≡ 18 → give_reads.Post κs a x s → ⊥
unfolding given_by give_refusal thr_good ceiling_of degm_good
level_first κs a x s k n thr degm late e = let h : ◌≡◌ {A = ℕ} 7 18 = simp ((give_reads.post-apart κs a x s e).refusal, k, n, thr, degm) at late in omega arith

-- and in a trace 18
pub ranges_first : (κs : Lfts 3) (a : Dens κs give_record_kinds.ps) (x : (res_t give_record_kinds.r κs).Denot) (s : AtExit (ended_of 3 give_record_kinds.ps give_record_kinds.r) κs)
    → a.0.now.base.seconds ≡ 0 → a.0.now.base.second.frames.0 ≡ 0 → a.1.0 ≡ 7 → a.1.1.0.now.degm ≡ 0 → said x ≡ 7 → give_record_reads.Post κs a x s → ⊥
unfolding given_by record_refusal
ranges_first κs a x s seconds frames n degm seven e = let h : ◌≡◌ {A = ℕ} 18 7 = simp ((give_record_reads.post-apart κs a x s e).refusal, seconds, frames, n, degm) at seven in omega arith

-- an overhead of 63 bytes with flags 4 is 1: the tests go in the order of their numbers
pub flags_first : (κs : Lfts 2) (a : Dens κs frame_accepted_kinds.ps) (x : (res_t frame_accepted_kinds.r κs).Denot) (s : AtExit (ended_of 2 frame_accepted_kinds.ps frame_accepted_kinds.r) κs)
    → length a.1.0.now ≡ 63 → a.1.1.0 ≡ 4 → said x ≡ 2 → frame_accepted_reads.Post κs a x s → ⊥
unfolding refusal_by
flags_first κs a x s bytes flags two e = let h : ◌≡◌ {A = ℕ} 1 2 = simp ((frame_accepted_reads.post-apart κs a x s e).refusal, bytes, flags) at two in omega arith

-- a count of 9 refuses the frame, its level provisioned or not
pub high_count : (κs : Lfts 3) (a : Dens κs step_kinds.ps) (x : (res_t step_kinds.r κs).Denot) (s : AtExit (ended_of 3 step_kinds.ps step_kinds.r) κs)
    → length a.1.0.now ≡ 64 → a.1.1.0 ≡ 0 → a.1.1.1.0 ≡ 0 → a.1.1.1.1.0 ≡ 0 → a.1.1.1.1.1.0.now ≡ 0 ∷ 0 ∷ 0 ∷ 0 ∷ 0 ∷ 9 ∷ []
    → said x ≡ 0 → step_reads.Post κs a x s → ⊥
unfolding framed_of frame_refusal low_to
high_count κs a x s bytes flags sm pm counts zero e = let h : ◌≡◌ {A = ℕ} 3 0 = simp ((step_reads.post-apart κs a x s e).refusal, bytes, flags, sm, pm, counts) at zero in omega arith

-- in a full second too it is 3
pub full_before_count : (κs : Lfts 3) (a : Dens κs step_kinds.ps) (x : (res_t step_kinds.r κs).Denot) (s : AtExit (ended_of 3 step_kinds.ps step_kinds.r) κs)
    → length a.1.0.now ≡ 64 → a.1.1.0 ≡ 0 → a.1.1.1.0 ≡ 0 → a.1.1.1.1.0 ≡ 0 → a.1.1.1.1.1.0.now ≡ 9 ∷ 0 ∷ 0 ∷ 0 ∷ 0 ∷ 0 ∷ []
    → said x ≡ 4 → step_reads.Post κs a x s → ⊥
unfolding framed_of frame_refusal low_to
full_before_count κs a x s bytes flags sm pm counts four e = let h : ◌≡◌ {A = ℕ} 3 4 = simp ((step_reads.post-apart κs a x s e).refusal, bytes, flags, sm, pm, counts) at four in omega arith

-- where nothing stands neither SSF nor a disabled TIM does
pub none_fails : (κs : Lfts 0) (a : Dens κs nothing_stands_kinds.ps) (x : LevelStands) (s : AtExit (ended_of 0 nothing_stands_kinds.ps nothing_stands_kinds.r) κs)
    → x.ssf ≡ true → nothing_stands_reads.Post κs a x s → ⊥
none_fails κs a x s ssf e = not_so (sym ssf ∙ ap (λ (d : LevelStands). d.ssf) e)

pub none_disabled : (κs : Lfts 0) (a : Dens κs nothing_stands_kinds.ps) (x : LevelStands) (s : AtExit (ended_of 0 nothing_stands_kinds.ps nothing_stands_kinds.r) κs)
    → x.disabled ≡ true → nothing_stands_reads.Post κs a x s → ⊥
none_disabled κs a x s disabled e = not_so (sym disabled ∙ ap (λ (d : LevelStands). d.disabled) e)

-- a mark is refused at 4,294,967,295 seconds
pub mark_late : (κs : Lfts 1) (a : Dens κs mark_kinds.ps) (x : (res_t mark_kinds.r κs).Denot) (s : AtExit (ended_of 1 mark_kinds.ps mark_kinds.r) κs)
    → a.0.now.base.seconds ≡ 4294967295 → said x ≡ 0 → mark_reads.Post κs a x s → ⊥
unfolding marked_of mark_of
mark_late κs a x s last zero e = let h : ◌≡◌ {A = ℕ} 4 0 = simp ((mark_reads.post-apart κs a x s e).refusal, last) at zero in omega arith

-- no level provisioned: the line has twenty-two figures
pub all_listed : (κs : Lfts 2) (a : Dens κs listed_figures_kinds.ps) (x : ArrayVec ℕ) (s : AtExit (ended_of 2 listed_figures_kinds.ps listed_figures_kinds.r) κs)
    → a.0.now ≡ replicate 6 blank_level → a.1.0.now ≡ replicate 52 0 → length x.items ≡ 52 → listed_figures_reads.Post κs a x s → ⊥
unfolding given_groups
all_listed κs a x s none zeros all e = let h : ◌≡◌ {A = ℕ} 22 52 = simp (e, none, zeros) at all in omega arith

pub all_in_array : (κs : Lfts 2) (a : Dens κs listed_array_kinds.ps) (x : Listed) (s : AtExit (ended_of 2 listed_array_kinds.ps listed_array_kinds.r) κs)
    → a.0.now ≡ replicate 6 blank_level → a.1.0.now ≡ replicate 52 0 → x.n ≡ 52 → listed_array_reads.Post κs a x s → ⊥
unfolding given_groups
all_in_array κs a x s none zeros all e = let h : ◌≡◌ {A = ℕ} 22 52 = simp (e, none, zeros) at all in omega arith

-- there is no level 0, and no level 7
pub level_zero : (κs : Lfts 1) (a : Dens κs level_report_kinds.ps) (x : (res_t level_report_kinds.r κs).Denot) (s : AtExit (ended_of 1 level_report_kinds.ps level_report_kinds.r) κs)
    → a.1.0 ≡ 0 → said x ≡ 0 → level_report_reads.Post κs a x s → ⊥
unfolding level_report
level_zero κs a x s n zero e = let h : ◌≡◌ {A = ℕ} 18 0 = simp ((level_report_reads.post-apart κs a x s e).refusal, n) at zero in omega arith

pub level_seven : (κs : Lfts 1) (a : Dens κs level_report_kinds.ps) (x : (res_t level_report_kinds.r κs).Denot) (s : AtExit (ended_of 1 level_report_kinds.ps level_report_kinds.r) κs)
    → a.1.0 ≡ 7 → said x ≡ 0 → level_report_reads.Post κs a x s → ⊥
unfolding level_report
level_seven κs a x s n zero e = let h : ◌≡◌ {A = ℕ} 18 0 = simp ((level_report_reads.post-apart κs a x s e).refusal, n) at zero in omega arith

-- a level 7 has no accepted trace, and is not 18 there
pub trace_of_seven : (κs : Lfts 1) (a : Dens κs level_trace_kinds.ps) (x : (res_t level_trace_kinds.r κs).Denot) (s : AtExit (ended_of 1 level_trace_kinds.ps level_trace_kinds.r) κs)
    → a.1.0 ≡ 7 → said x ≡ 18 → level_trace_reads.Post κs a x s → ⊥
unfolding level_traced
trace_of_seven κs a x s n late e = let h : ◌≡◌ {A = ℕ} 13 18 = simp ((level_trace_reads.post-apart κs a x s e).refusal, n) at late in omega arith
