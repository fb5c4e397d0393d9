-- Contents and lengths that a tempting reading would give, shut out by the contract at one input. Assumes nothing.
use Rattle.std.proofs.Common.{◌≡◌, ℕ, List, [], true, false, Fits, w64, length, replicate, ap, sym, ◌∙◌, arith}
use Rattle.std.proofs.Math.ListN.{get_or}
use contract.Lifetimes.{Lfts}
use borrow.Fn.Kinds.{Dens, ended_of, res_t}
use denote.Triple.Clauses.{AtExit}
use Rattle.answer.specs.Over.{over}
use Rattle.signal.specs.declared.Signal.TheVariants.{Clear}
use Rattle.causes.specs.declared.Report.{Report}
use Rattle.causes.specs.Causes.{ssf_of, tim_acts, head_of, report_of, nothing_stands, no_report}
use Rattle.listing.specs.Bytes.{bytes}
use Rattle.listing.specs.Text.{fitted}
use Rattle.level.specs.declared.LevelStands.{LevelStands}
use Rattle.level.specs.declared.Status.TheVariants as status
use Rattle.conditions.specs.Conditions.{conditions, change_of, changes_of, condition_changes, level_words, under, level_changes}
use Rattle.conditions.proofs.put_conditions.Kinds as kinds
use Rattle.conditions.proofs.put_conditions.Reads as reads
use Rattle.conditions.proofs.put_level.Kinds as level_kinds
use Rattle.conditions.proofs.put_level.Reads as level_reads
use Rattle.conditions.proofs.put_conditions_at.Kinds as at_kinds
use Rattle.conditions.proofs.put_conditions_at.Reads as at_reads
use Rattle.conditions.proofs.put_level_at.Kinds as level_at_kinds
use Rattle.conditions.proofs.put_level_at.Reads as level_at_reads

-- in frame, and nothing else
abbrev in_frame : Report
in_frame =
    report_of (record {
      line = record { inframe = true; inmulti = false; tsf = false; ais = false; lof = false; lom = false };
      section = nothing_stands.section;
      path = nothing_stands.path;
    }) 0 0

-- what was raised has a plus
pub raised_with_minus : (h : Fits w64 380) (κs : Lfts 4) (a : Dens κs (kinds.ps 380 h)) (r : (res_t (kinds.r 380 h) κs).Denot) (s : AtExit (ended_of 4 (kinds.ps 380 h) (kinds.r 380 h)) κs)
    → a.0.now ≡ no_report → a.1.0.now ≡ in_frame → a.1.1.0.now.items ≡ []
    → s.1.1.0.now.items ≡ bytes " -IF" → reads.Post 380 h κs a r s → ⊥
unfolding fitted condition_changes changes_of change_of conditions report_of no_report head_of tim_acts ssf_of
raised_with_minus h κs a r s before after d o p =
    let e : s.1.1.0.now.items ≡ bytes " +IF" = rw (before, after, d) at (reads.post-apart 380 h κs a r s p).put in
    let x : ◌≡◌ {A = ℕ} 45 43 = ap (λ (l : List ℕ). get_or l 1 0) (sym o ∙ e) in
    omega arith

-- the path's dTIM and what it brings about
abbrev path_tim : Report
path_tim =
    report_of (record {
      line = nothing_stands.line;
      section = nothing_stands.section;
      path = record { signal = Clear; tim = true; disabled = false; bdi = false; deg = false };
    }) 0 0

-- the path's dTIM has the path's name: not `+SM.dTIM`
pub section_named : (h : Fits w64 380) (κs : Lfts 4) (a : Dens κs (kinds.ps 380 h)) (r : (res_t (kinds.r 380 h) κs).Denot) (s : AtExit (ended_of 4 (kinds.ps 380 h) (kinds.r 380 h)) κs)
    → a.0.now ≡ no_report → a.1.0.now ≡ path_tim → a.1.1.0.now.items ≡ []
    → get_or s.1.1.0.now.items 2 0 ≡ 83 → reads.Post 380 h κs a r s → ⊥
unfolding fitted condition_changes changes_of change_of conditions report_of no_report head_of tim_acts ssf_of
section_named h κs a r s before after d o p =
    let e : get_or s.1.1.0.now.items 2 0 ≡ 80 = ap (λ (l : List ℕ). get_or l 2 0) (rw (before, after, d) at (reads.post-apart 380 h κs a r s p).put) in
    let x : ◌≡◌ {A = ℕ} 83 80 = sym o ∙ e in
    omega arith

-- what is as it was is not told
pub standing_told : (h : Fits w64 380) (κs : Lfts 4) (a : Dens κs (kinds.ps 380 h)) (r : (res_t (kinds.r 380 h) κs).Denot) (s : AtExit (ended_of 4 (kinds.ps 380 h) (kinds.r 380 h)) κs)
    → a.0.now ≡ in_frame → a.1.0.now ≡ in_frame → a.1.1.0.now.items ≡ [] → length s.1.1.0.now.items ≡ 4 → reads.Post 380 h κs a r s → ⊥
unfolding fitted condition_changes changes_of change_of conditions report_of head_of tim_acts ssf_of
standing_told h κs a r s before after d o p =
    let e : length s.1.1.0.now.items ≡ 0 = ap (λ (l : List ℕ). length l) (rw (before, after, d) at (reads.post-apart 380 h κs a r s p).put) in
    omega arith

-- of a level nothing stands, and the loss of its tandem connection
abbrev calm : LevelStands
calm = record { ssf = false; status = status.Clear; tim = false; disabled = false; bdi = false; iae = false; biae = false; deg = false }

abbrev lost : LevelStands
lost = record { ssf = false; status = status.Ltc; tim = false; disabled = false; bdi = false; iae = false; biae = false; deg = false }

-- level 2 has the number 2: ` +TCM2.dLTC +TCM2.aTSF +TCM2.cLTC`
pub level_from_0 : (h : Fits w64 228) (κs : Lfts 4) (a : Dens κs (level_kinds.ps 228 h)) (r : (res_t (level_kinds.r 228 h) κs).Denot) (s : AtExit (ended_of 4 (level_kinds.ps 228 h) (level_kinds.r 228 h)) κs)
    → a.0 ≡ 2 → a.1.0.now ≡ calm → a.1.1.0.now ≡ lost → a.1.1.1.0.now.items ≡ []
    → s.1.1.1.0.now.items ≡ bytes " +TCM1.dLTC +TCM1.aTSF +TCM1.cLTC" → level_reads.Post 228 h κs a r s → ⊥
unfolding fitted level_changes level_words under changes_of change_of tim_acts
level_from_0 h κs a r s n before after d o p =
    let e : s.1.1.1.0.now.items ≡ bytes " +TCM2.dLTC +TCM2.aTSF +TCM2.cLTC" = rw (n, before, after, d) at (level_reads.post-apart 228 h κs a r s p).put in
    let x : ◌≡◌ {A = ℕ} 49 50 = ap (λ (l : List ℕ). get_or l 5 0) (sym o ∙ e) in
    omega arith

-- what was raised has a plus
pub raised_with_minus_at : (κs : Lfts 1) (a : Dens κs at_kinds.ps) (r : ℕ) (s : AtExit (ended_of 1 at_kinds.ps at_kinds.r) κs)
    → a.0 ≡ no_report → a.1.0 ≡ in_frame → a.1.1.0.now ≡ replicate 380 0 → a.1.1.1.0 ≡ 0
    → s.1.1.0.now ≡ over (replicate 380 0) 0 (bytes " -IF") → at_reads.Post κs a r s → ⊥
unfolding fitted over condition_changes changes_of change_of conditions report_of no_report head_of tim_acts ssf_of
raised_with_minus_at κs a r s before after d at o p =
    let e : s.1.1.0.now ≡ over (replicate 380 0) 0 (bytes " +IF") = rw (before, after, d, at) at p.1 in
    let h : ◌≡◌ {A = ℕ} 45 43 = ap (λ (l : List ℕ). get_or l 1 0) (sym o ∙ e) in
    omega arith

-- the path's dTIM has the path's name: not `+SM.dTIM`
pub section_named_at : (κs : Lfts 1) (a : Dens κs at_kinds.ps) (r : ℕ) (s : AtExit (ended_of 1 at_kinds.ps at_kinds.r) κs)
    → a.0 ≡ no_report → a.1.0 ≡ path_tim → a.1.1.0.now ≡ replicate 380 0 → a.1.1.1.0 ≡ 0
    → get_or s.1.1.0.now 2 0 ≡ 83 → at_reads.Post κs a r s → ⊥
unfolding fitted over condition_changes changes_of change_of conditions report_of no_report head_of tim_acts ssf_of
section_named_at κs a r s before after d at o p =
    let e : get_or s.1.1.0.now 2 0 ≡ 80 = ap (λ (l : List ℕ). get_or l 2 0) (rw (before, after, d, at) at p.1) in
    let h : ◌≡◌ {A = ℕ} 83 80 = sym o ∙ e in
    omega arith

-- what is as it was is not told
pub standing_told_at : (κs : Lfts 1) (a : Dens κs at_kinds.ps) (s : AtExit (ended_of 1 at_kinds.ps at_kinds.r) κs)
    → a.0 ≡ in_frame → a.1.0 ≡ in_frame → a.1.1.0.now ≡ replicate 380 0 → a.1.1.1.0 ≡ 0 → at_reads.Post κs a 4 s → ⊥
unfolding fitted condition_changes changes_of change_of conditions report_of head_of tim_acts ssf_of
standing_told_at κs a s before after d at p =
    let h : ◌≡◌ {A = ℕ} 4 0 = rw (before, after, d, at) at p.0 in
    omega arith

-- level 2 has the number 2: ` +TCM2.dLTC +TCM2.aTSF +TCM2.cLTC`
pub level_from_0_at : (κs : Lfts 1) (a : Dens κs level_at_kinds.ps) (r : ℕ) (s : AtExit (ended_of 1 level_at_kinds.ps level_at_kinds.r) κs)
    → a.0 ≡ 2 → a.1.0 ≡ calm → a.1.1.0 ≡ lost → a.1.1.1.0.now ≡ replicate 228 0 → a.1.1.1.1.0 ≡ 0
    → s.1.1.1.0.now ≡ over (replicate 228 0) 0 (bytes " +TCM1.dLTC +TCM1.aTSF +TCM1.cLTC") → level_at_reads.Post κs a r s → ⊥
unfolding fitted over level_changes level_words under changes_of change_of tim_acts
level_from_0_at κs a r s n before after d at o p =
    let e : s.1.1.1.0.now ≡ over (replicate 228 0) 0 (bytes " +TCM2.dLTC +TCM2.aTSF +TCM2.cLTC") = rw (n, before, after, d, at) at p.1 in
    let h : ◌≡◌ {A = ℕ} 49 50 = ap (λ (l : List ℕ). get_or l 5 0) (sym o ∙ e) in
    omega arith
