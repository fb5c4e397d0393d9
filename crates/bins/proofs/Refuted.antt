-- Wrong answers that the contracts shut out, each for one input. Assumes nothing.
use Rattle.std.proofs.Common.{◌≡◌, ℕ, List, [], ◌∷◌, Fits, w64, length, replicate, ap, sym, ◌∙◌, arith}
use contract.Lifetimes.{Lfts}
use borrow.Fn.Kinds.{Dens, ended_of, res_t}
use denote.Triple.Clauses.{AtExit}
use Rattle.listing.specs.Text.{fitted}
use Rattle.summary.specs.Summary.{five_good, heads_good, valid_of, follows_on, join_refusal, join_of, added_of, second_of}
use Rattle.bins.specs.Bins.{no_bins, bins_with, opened_of, bin_lines}
use Rattle.bins.specs.declared.Bins.{Bins}
use Rattle.bins.proofs.no_bins.Kinds as none_kinds
use Rattle.bins.proofs.no_bins.Reads as none_reads
use Rattle.bins.proofs.Bins.add.Kinds as with_kinds
use Rattle.bins.proofs.Bins.add.Reads as with_reads
use Rattle.bins.proofs.Bins.close.Kinds as opened_kinds
use Rattle.bins.proofs.Bins.close.Reads as opened_reads
use Rattle.bins.proofs.Bins.closed_lines.Kinds as closed_kinds
use Rattle.bins.proofs.Bins.closed_lines.Reads as closed_reads
use Rattle.bins.proofs.Bins.rest_lines.Kinds as rest_kinds
use Rattle.bins.proofs.Bins.rest_lines.Reads as rest_reads
use Rattle.bins.proofs.closed_lines_at.Kinds as closed_at_kinds
use Rattle.bins.proofs.closed_lines_at.Reads as closed_at_reads
use Rattle.bins.proofs.rest_lines_at.Kinds as rest_at_kinds
use Rattle.bins.proofs.rest_lines_at.Reads as rest_at_reads

-- no_bins: no day of one second
pub day_begun : (κs : Lfts 0) (x : Bins) (s : AtExit (ended_of 0 none_kinds.ps none_kinds.r) κs) → x.day.length ≡ 1 → none_reads.Post κs tt x s → ⊥
day_begun κs x s one e = let z : ◌≡◌ {A = ℕ} 1 0 = sym one ∙ ap (λ (b : Bins). b.day.length) e in omega arith

-- add: second 5 begins what it is joined to where none is open
pub from_one : (κs : Lfts 2) (a : Dens κs with_kinds.ps) (r : (res_t with_kinds.r κs).Denot) (s : AtExit (ended_of 2 with_kinds.ps with_kinds.r) κs)
    → a.0.now ≡ no_bins → a.1.0.now ≡ 5 ∷ replicate 51 0 → s.0.now.quarter.first ≡ 1 → with_reads.Post κs a r s → ⊥
unfolding bins_with join_of join_refusal added_of second_of valid_of follows_on heads_good five_good
from_one κs a r s none f one e =
    let z : ◌≡◌ {A = ℕ} 1 5 = sym one ∙ ap (λ (b : Bins). b.quarter.first) (rw (none, f) at e) in
    omega arith

-- close: with second 900 the day does not close
pub day_closed : (κs : Lfts 1) (a : Dens κs opened_kinds.ps) (r : (res_t opened_kinds.r κs).Denot) (s : AtExit (ended_of 1 opened_kinds.ps opened_kinds.r) κs)
    → a.1.0 ≡ 900 → a.0.now.day.length ≡ 900 → s.0.now.day.length ≡ 0 → opened_reads.Post κs a r s → ⊥
unfolding opened_of
day_closed κs a r s n long none e =
    let h : s.0.now.day.length ≡ a.0.now.day.length = rw n at (ap (λ (b : Bins). b.day.length) e) in
    omega (arith, h, long, none)

-- closed_lines: with second 899 nothing closes
pub closes_early : (h : Fits w64 1094) (κs : Lfts 3) (a : Dens κs (closed_kinds.ps 1094 h)) (r : (res_t (closed_kinds.r 1094 h) κs).Denot) (s : AtExit (ended_of 3 (closed_kinds.ps 1094 h) (closed_kinds.r 1094 h)) κs)
    → a.1.0 ≡ 899 → a.1.1.0.now.items ≡ [] → length s.1.1.0.now.items ≡ 50 → closed_reads.Post 1094 h κs a r s → ⊥
unfolding fitted bin_lines
closes_early h κs a r s n d o p =
    let e : length s.1.1.0.now.items ≡ 0 = ap (λ (l : List ℕ). length l) (rw (n, d) at (closed_reads.post-apart 1094 h κs a r s p).put) in
    omega arith

-- rest_lines: what has no second has no line
pub empty_printed : (h : Fits w64 1094) (κs : Lfts 3) (a : Dens κs (rest_kinds.ps 1094 h)) (r : (res_t (rest_kinds.r 1094 h) κs).Denot) (s : AtExit (ended_of 3 (rest_kinds.ps 1094 h) (rest_kinds.r 1094 h)) κs)
    → a.0.now ≡ no_bins → a.1.0.now.items ≡ [] → length s.1.0.now.items ≡ 100 → rest_reads.Post 1094 h κs a r s → ⊥
unfolding fitted bin_lines
empty_printed h κs a r s b d o p =
    let e : length s.1.0.now.items ≡ 0 = ap (λ (l : List ℕ). length l) (rw (b, d) at (rest_reads.post-apart 1094 h κs a r s p).put) in
    omega arith

-- closed_lines_at: with second 899 nothing closes
pub closes_early_at : (κs : Lfts 1) (a : Dens κs closed_at_kinds.ps) (s : AtExit (ended_of 1 closed_at_kinds.ps closed_at_kinds.r) κs)
    → a.1.0 ≡ 899 → a.1.1.0.now ≡ replicate 1094 0 → a.1.1.1.0 ≡ 0 → closed_at_reads.Post κs a 50 s → ⊥
unfolding fitted bin_lines
closes_early_at κs a s n d at e = let z : ◌≡◌ {A = ℕ} 50 0 = rw (n, d, at) at e.0 in omega arith

-- rest_lines_at: what has no second has no line
pub empty_printed_at : (κs : Lfts 1) (a : Dens κs rest_at_kinds.ps) (s : AtExit (ended_of 1 rest_at_kinds.ps rest_at_kinds.r) κs)
    → a.0 ≡ no_bins → a.1.0.now ≡ replicate 1094 0 → a.1.1.0 ≡ 0 → rest_at_reads.Post κs a 100 s → ⊥
unfolding fitted bin_lines
empty_printed_at κs a s b d at e = let z : ◌≡◌ {A = ℕ} 100 0 = rw (b, d, at) at e.0 in omega arith
