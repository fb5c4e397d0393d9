-- Wrong answers that the contracts shut out, each for one input. Assumes nothing.
use Rattle.std.proofs.Common.{◌≡◌, ℕ, ◌-◌, ◌≤◌, List, [], ◌∷◌, Bool, true, false, Fits, w64, length, replicate, refl, ap, sym, ◌∙◌, leb, arith}
use Rattle.std.proofs.Math.ListN.{get_or}
use contract.Lifetimes.{Lfts}
use borrow.Fn.Kinds.{Dens, ended_of, res_t}
use denote.Triple.Clauses.{AtExit}
use Rattle.answer.specs.Over.{over}
use Rattle.answer.proofs.Cond.{by_cond}
use Rattle.listing.specs.Text.{fitted, decimal_in, spaced, fields_of, text_line}
use Rattle.listing.proofs.Texts.{fitted_is}
use Rattle.names.specs.Names.{same_in, same_trace}
use Rattle.causes.specs.Causes.{ssf_of, tim_acts, head_of, report_of, nothing_stands}
use Rattle.conditions.specs.Conditions.{conditions, change_of, changes_of, condition_changes, level_words, under, level_changes}
use Rattle.change.specs.declared.Shown.{Shown}
use Rattle.change.specs.Change.{shown_of, head_change, printable_of, readable_of, told_of, trace_change, levels_to, level_seen, standing_changes, trace_changes, beginning_of, frame_line, change_line}
use Rattle.tandem.specs.Levels.{given_groups}
use Rattle.stream.specs.Stream.{change}
use Rattle.trace.specs.declared.State.{State}
use Rattle.trace.specs.Scan.{start_of}
use Rattle.supervisor.specs.declared.Supervisor.{Supervisor}
use Rattle.late.specs.Late.{pending_of}
use Rattle.summary.specs.Summary.{five_good, heads_good, valid_of, follows_on, join_refusal, join_of, added_of, second_of}
use Rattle.bins.specs.Bins.{no_bins, bins_with, opened_of}
use Rattle.bins.specs.declared.Bins.{Bins}
use Rattle.lines.specs.Line.{shown_in, told_for, line_for, line_by, second_lines, pending_line, end_lines, last_lines, ending_of}
use Rattle.lines.proofs.shown_in.Kinds as shown_kinds
use Rattle.lines.proofs.shown_in.Reads as shown_reads
use Rattle.lines.proofs.told_line.Kinds as told_kinds
use Rattle.lines.proofs.told_line.Reads as told_reads
use Rattle.lines.proofs.reported_lines.Kinds as reported_kinds
use Rattle.lines.proofs.reported_lines.Reads as reported_reads
use Rattle.lines.proofs.open_after.Kinds as open_kinds
use Rattle.lines.proofs.open_after.Reads as open_reads
use Rattle.lines.proofs.last_lines.Kinds as last_kinds
use Rattle.lines.proofs.last_lines.Reads as last_reads
use Rattle.lines.proofs.told_line_at.Kinds as told_at_kinds
use Rattle.lines.proofs.told_line_at.Reads as told_at_reads
use Rattle.lines.proofs.reported_lines_at.Kinds as reported_at_kinds
use Rattle.lines.proofs.reported_lines_at.Reads as reported_at_reads
use Rattle.lines.proofs.last_lines_at.Kinds as last_at_kinds
use Rattle.lines.proofs.last_lines_at.Reads as last_at_reads

-- shown_in: what stands of the levels is shown as it stands
pub level_lost : (κs : Lfts 1) (a : Dens κs shown_kinds.ps) (x : Shown) (s : AtExit (ended_of 1 shown_kinds.ps shown_kinds.r) κs)
    → (a.0.now.levels ≡ x.levels → ⊥) → shown_reads.Post κs a x s → ⊥
unfolding shown_of
level_lost κs a x s n p = n (sym (ap (λ (y : Shown). y.levels) p))

-- the state a scan starts with, in frame
abbrev framed : State
framed = record {
  begun = true;
  kind = 1;
  sup = start_of.sup;
  last = start_of.last;
  standing = record {
    line = record { inframe = true; inmulti = false; tsf = false; ais = false; lof = false; lom = false };
    section = nothing_stands.section;
    path = nothing_stands.path;
  };
  levels = start_of.levels;
}

same_state : told_for 1 (shown_in framed) framed ≡ []
unfolding shown_of change_line frame_line beginning_of standing_changes trace_changes levels_to level_seen level_changes level_words under condition_changes conditions trace_change told_of readable_of printable_of head_change changes_of change_of fields_of spaced decimal_in report_of head_of tim_acts ssf_of same_trace same_in
same_state = refl

-- a record with which nothing changed puts no line, and no line end either
pub empty_line : (cap : ℕ) (h : Fits w64 cap) (κs : Lfts 4) (a : Dens κs (told_kinds.ps cap h)) (r : (res_t (told_kinds.r cap h) κs).Denot) (s : AtExit (ended_of 4 (told_kinds.ps cap h) (told_kinds.r cap h)) κs)
    → a.0 ≡ 1 → a.1.0.now ≡ shown_in framed → a.1.1.0.now ≡ framed → a.1.1.1.0.now.items ≡ [] → length s.1.1.1.0.now.items ≡ 1 → told_reads.Post cap h κs a r s → ⊥
unfolding fitted
empty_line cap h κs a r s total before is d o p =
    let q : s.1.1.1.0.now.items ≡ fitted cap 0 2560 (told_for 1 (shown_in framed) framed) = rw (total, before, is, d) at (told_reads.post-apart cap h κs a r s p).put in
    let n : length (fitted cap 0 2560 (told_for 1 (shown_in framed) framed)) ≡ 0 =
    ap (λ (l : List ℕ). length (fitted cap 0 2560 l)) same_state ∙ by_cond (λ (l : List ℕ). length l ≡ 0) (leb 2560 (cap - 0)) (λ _. refl) (λ _. refl) in
    let e : length s.1.1.1.0.now.items ≡ 0 = ap (λ (l : List ℕ). length l) q ∙ n in
    omega arith

first_second : get_or (told_for 1 (shown_in start_of) framed) 2 0 ≡ 49
unfolding shown_of change_line frame_line beginning_of standing_changes trace_changes levels_to level_seen level_changes level_words under condition_changes conditions trace_change told_of readable_of printable_of head_change changes_of change_of fields_of spaced decimal_in report_of head_of tim_acts ssf_of same_trace same_in
first_second = refl

-- the open second is counted from 1: a line that begins "F 0" is none
pub second_from_0 : (cap : ℕ) (h : Fits w64 cap) (κs : Lfts 4) (a : Dens κs (told_kinds.ps cap h)) (r : (res_t (told_kinds.r cap h) κs).Denot) (s : AtExit (ended_of 4 (told_kinds.ps cap h) (told_kinds.r cap h)) κs)
    → 2560 ≤ cap → a.0 ≡ 1 → a.1.0.now ≡ shown_in start_of → a.1.1.0.now ≡ framed → a.1.1.1.0.now.items ≡ [] → get_or s.1.1.1.0.now.items 2 0 ≡ 48 → told_reads.Post cap h κs a r s → ⊥
second_from_0 cap h κs a r s room total before is d z p =
    let l : List ℕ = told_for 1 (shown_in start_of) framed in
    let q : s.1.1.1.0.now.items ≡ fitted cap 0 2560 l = rw (total, before, is, d) at (told_reads.post-apart cap h κs a r s p).put in
    let f : fitted cap 0 2560 l ≡ l = fitted_is cap 0 2560 l (omega arith) in
    let e : ◌≡◌ {A = ℕ} 48 49 = sym z ∙ ap (λ (o : List ℕ). get_or o 2 0) (q ∙ f) ∙ first_second in
    omega arith

-- reported_lines: twenty-two figures of one digit make 46 bytes; with those of six levels that are not provisioned they would be 106
pub all_listed : (h : Fits w64 1094) (κs : Lfts 4) (a : Dens κs (reported_kinds.ps 1094 h)) (r : (res_t (reported_kinds.r 1094 h) κs).Denot) (s : AtExit (ended_of 4 (reported_kinds.ps 1094 h) (reported_kinds.r 1094 h)) κs)
    → a.0 ≡ false → a.1.1.0.now ≡ start_of → a.1.1.1.0.now.items ≡ [] → length s.1.1.1.0.now.items ≡ 106 → reported_reads.Post 1094 h κs a r s → ⊥
unfolding fitted line_by line_for given_groups text_line fields_of spaced decimal_in
all_listed h κs a r s office st d o p =
    let e : length s.1.1.1.0.now.items ≡ 46 = ap (λ (l : List ℕ). length l) (rw (office, st, d) at (reported_reads.post-apart 1094 h κs a r s p).put) in
    omega arith

nothing_put : (long at : ℕ) (done office : Bool) (b : Bins) (st : State) (refusal offset frames : ℕ) → done ≡ false
    → length (fitted long at 2276 (ending_of done office b st refusal offset frames)) ≡ 0
unfolding fitted
nothing_put long at done office b st refusal offset frames e =
    rw e (by_cond (λ (l : List ℕ). length l ≡ 0) (leb 2276 (long - at)) (λ _. refl) (λ _. refl))

-- last_lines: before the output is whole no last line is put
pub last_too_early : (cap : ℕ) (h : Fits w64 cap) (κs : Lfts 5) (a : Dens κs (last_kinds.ps cap h)) (r : (res_t (last_kinds.r cap h) κs).Denot) (s : AtExit (ended_of 5 (last_kinds.ps cap h) (last_kinds.r cap h)) κs)
    → a.0 ≡ false → a.1.1.1.1.1.0.now.items ≡ [] → length s.1.1.1.1.1.0.now.items ≡ 1 → last_reads.Post cap h κs a r s → ⊥
last_too_early cap h κs a r s n d o p =
    let put = rw d at (last_reads.post-apart cap h κs a r s p).put in
    let e : length s.1.1.1.1.1.0.now.items ≡ 0 =
    ap (λ (l : List ℕ). length l) put ∙ nothing_put cap 0 a.0 a.1.0 a.1.1.0.now a.1.1.1.0.now a.1.1.1.1.0.now.refusal a.1.1.1.1.0.now.offset a.1.1.1.1.0.now.frames n in
    omega arith

-- the state after a second
abbrev one_closed : State
one_closed = record {
  begun = true;
  kind = 0;
  sup = record {
    tandem = record { base = record { settings = base.settings; layers = base.layers; second = base.second; seconds = 1 }; flags = 0; levels = start_of.sup.tandem.levels };
    pending = start_of.sup.pending;
  };
  last = start_of.last;
  standing = start_of.standing;
  levels = start_of.levels;
}
  where
    base : Supervisor
    base = start_of.sup.tandem.base

first_letter : get_or (ending_of true false no_bins one_closed 16 0 0) 0 0 ≡ 83
unfolding last_lines pending_line second_lines pending_of end_lines given_groups text_line fields_of spaced decimal_in
first_letter = refl

-- the pending second is printed before R
pub refusal_first : (cap : ℕ) (h : Fits w64 cap) (κs : Lfts 5) (a : Dens κs (last_kinds.ps cap h)) (r : (res_t (last_kinds.r cap h) κs).Denot) (s : AtExit (ended_of 5 (last_kinds.ps cap h) (last_kinds.r cap h)) κs)
    → 2276 ≤ cap → a.0 ≡ true → a.1.0 ≡ false → a.1.1.0.now ≡ no_bins → a.1.1.1.0.now ≡ one_closed → a.1.1.1.1.0.now ≡ record { refusal = 16; offset = 0; frames = 0 } → a.1.1.1.1.1.0.now.items ≡ []
    → get_or s.1.1.1.1.1.0.now.items 0 0 ≡ 82 → last_reads.Post cap h κs a r s → ⊥
refusal_first cap h κs a r s room done office b st out d z p =
    let l : List ℕ = ending_of true false no_bins one_closed 16 0 0 in
    let q : s.1.1.1.1.1.0.now.items ≡ fitted cap 0 2276 l = rw (done, office, b, st, out, d) at (last_reads.post-apart cap h κs a r s p).put in
    let f : fitted cap 0 2276 l ≡ l = fitted_is cap 0 2276 l (omega arith) in
    let e : ◌≡◌ {A = ℕ} 82 83 = sym z ∙ ap (λ (o : List ℕ). get_or o 0 0) (q ∙ f) ∙ first_letter in
    omega arith

-- open_after: second 5 is in the quarter-hour that is open after it
pub not_joined : (κs : Lfts 2) (a : Dens κs open_kinds.ps) (r : (res_t open_kinds.r κs).Denot) (s : AtExit (ended_of 2 open_kinds.ps open_kinds.r) κs)
    → a.0.now ≡ no_bins → a.1.0.now.last ≡ 5 ∷ replicate 51 0 → s.0.now.quarter.length ≡ 0 → open_reads.Post κs a r s → ⊥
unfolding opened_of bins_with join_of join_refusal added_of second_of valid_of follows_on heads_good five_good
not_joined κs a r s none last zero e =
    let z : ◌≡◌ {A = ℕ} 0 1 = sym zero ∙ rw (none, last) at (ap (λ (b : Bins). b.quarter.length) e) in
    omega arith

same_state_at : line_for (change 1 framed framed) ≡ []
unfolding line_for
same_state_at = same_state

-- a record with which nothing changed puts no line, and no line end either
pub empty_line_at : (κs : Lfts 1) (a : Dens κs told_at_kinds.ps) (s : AtExit (ended_of 1 told_at_kinds.ps told_at_kinds.r) κs) → told_at_reads.Post κs (framed, (framed, (1, (a.1.1.1.0, (0, tt))))) 1 s → ⊥
unfolding fitted
empty_line_at κs a s p =
    let d : List ℕ = a.1.1.1.0.now in
    let e : length (fitted (length d) 0 2560 (line_for (change 1 framed framed))) ≡ 0 =
    ap (λ (l : List ℕ). length (fitted (length d) 0 2560 l)) same_state_at ∙ by_cond (λ (l : List ℕ). length l ≡ 0) (leb 2560 (length d - 0)) (λ _. refl) (λ _. refl) in
    omega (arith, p.0, e)

first_second_at : (d : List ℕ) → get_or (over d 0 (line_for (change 1 start_of framed))) 2 0 ≡ 49
unfolding over line_for shown_of change_line frame_line beginning_of standing_changes trace_changes levels_to level_seen level_changes level_words under condition_changes conditions trace_change told_of readable_of printable_of head_change changes_of change_of fields_of spaced decimal_in report_of head_of tim_acts ssf_of same_trace same_in
first_second_at d = refl

-- the open second is counted from 1: a line that begins "F 0" is none
pub second_from_0_at : (κs : Lfts 1) (a : Dens κs told_at_kinds.ps) (x : ℕ) (s : AtExit (ended_of 1 told_at_kinds.ps told_at_kinds.r) κs) → 2560 ≤ length a.1.1.1.0.now
    → told_at_reads.Post κs (start_of, (framed, (1, (a.1.1.1.0, (0, tt))))) x s → get_or s.1.1.1.0.now 2 0 ≡ 48 → ⊥
second_from_0_at κs a x s h p z =
    let d : List ℕ = a.1.1.1.0.now in
    let l : List ℕ = line_for (change 1 start_of framed) in
    let f : fitted (length d) 0 2560 l ≡ l = fitted_is (length d) 0 2560 l (omega arith) in
    let e : ◌≡◌ {A = ℕ} 48 49 = sym z ∙ ap (λ (o : List ℕ). get_or o 2 0) (p.2 ∙ ap (over d 0) f) ∙ first_second_at d in
    omega arith

-- reported_lines_at: twenty-two figures of one digit make 46 bytes; with those of six levels that are not provisioned they would be 106
pub all_listed_at : (κs : Lfts 1) (a : Dens κs reported_at_kinds.ps) (s : AtExit (ended_of 1 reported_at_kinds.ps reported_at_kinds.r) κs)
    → a.0 ≡ false → a.1.1.0 ≡ start_of → a.1.1.1.0.now ≡ replicate 1094 0 → a.1.1.1.1.0 ≡ 0 → reported_at_reads.Post κs a 106 s → ⊥
unfolding fitted line_by line_for given_groups text_line fields_of spaced decimal_in
all_listed_at κs a s office st d at p =
    let h : ◌≡◌ {A = ℕ} 106 46 = rw (office, st, d, at) at p.0 in
    omega arith

-- last_lines_at: before the output is whole no last line is put
pub last_too_early_at : (κs : Lfts 1) (a : Dens κs last_at_kinds.ps) (s : AtExit (ended_of 1 last_at_kinds.ps last_at_kinds.r) κs)
    → a.0 ≡ false → a.1.1.1.1.1.1.1.1.0 ≡ 0 → last_at_reads.Post κs a 1 s → ⊥
last_too_early_at κs a s d at p =
    let e = nothing_put (length a.1.1.1.1.1.1.1.0.now) a.1.1.1.1.1.1.1.1.0 a.0 a.1.0 a.1.1.0 a.1.1.1.0 a.1.1.1.1.0 a.1.1.1.1.1.0 a.1.1.1.1.1.1.0 d in
    omega (arith, p.0, e, at)

first_letter_at : (d : List ℕ) → get_or (over d 0 (ending_of true false no_bins one_closed 16 0 0)) 0 0 ≡ 83
unfolding over last_lines pending_line second_lines pending_of end_lines given_groups text_line fields_of spaced decimal_in
first_letter_at d = refl

-- the pending second is printed before R
pub refusal_first_at : (κs : Lfts 1) (a : Dens κs last_at_kinds.ps) (x : ℕ) (s : AtExit (ended_of 1 last_at_kinds.ps last_at_kinds.r) κs) → 2276 ≤ length a.1.1.1.1.1.1.1.0.now
    → last_at_reads.Post κs (true, (false, (no_bins, (one_closed, (16, (0, (0, (a.1.1.1.1.1.1.1.0, (0, tt))))))))) x s → get_or s.1.1.1.1.1.1.1.0.now 0 0 ≡ 82 → ⊥
refusal_first_at κs a x s h p z =
    let d : List ℕ = a.1.1.1.1.1.1.1.0.now in
    let l : List ℕ = ending_of true false no_bins one_closed 16 0 0 in
    let f : fitted (length d) 0 2276 l ≡ l = fitted_is (length d) 0 2276 l (omega arith) in
    let e : ◌≡◌ {A = ℕ} 82 83 = sym z ∙ ap (λ (o : List ℕ). get_or o 0 0) (p.1 ∙ ap (over d 0) f) ∙ first_letter_at d in
    omega arith
