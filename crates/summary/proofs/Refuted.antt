-- Wrong answers that the contracts shut out, each for one input. Assumes nothing.
use Prim.Native.Nat.{ℕ, ◌*◌, ◌≤◌}
use mathlib.Core.Path.{◌≡◌, sym, ap, ◌∙◌}
use mathlib.Core.Bool.{true}
use mathlib.Core.List.{List}
use native.Mathlib.Omega.{arith}
use contract.Lifetimes.{Lfts}
use borrow.Fn.Kinds.{Dens, ended_of}
use denote.Triple.Clauses.{AtExit}
use lib.ListN.{get_or, replicate}
use Rattle.summary.specs.Summary.{five_good, heads_good, valid_of, no_five, empty_summary, follows_on, join_refusal, join_of, second_of, numbers_of}
use Rattle.summary.specs.declared.Summary.{Summary}
use Rattle.answer.specs.declared.Refusal.{Refusal}
use Rattle.answer.specs.Refusal.{said}
use Rattle.std.specs.Prelude.{Result}
use Rattle.summary.proofs.Bounds.{valid_parts}
use Rattle.summary.proofs.valid.Kinds as valid_kinds
use Rattle.summary.proofs.valid.Reads as valid_reads
use Rattle.summary.proofs.empty.Kinds as empty_kinds
use Rattle.summary.proofs.empty.Reads as empty_reads
use Rattle.summary.proofs.join.Kinds as join_kinds
use Rattle.summary.proofs.join.Reads as join_reads
use Rattle.summary.proofs.numbers_of.Kinds as numbers_of_kinds
use Rattle.summary.proofs.numbers_of.Reads as numbers_of_reads
use Rattle.summary.proofs.summary_by.Kinds as summary_by_kinds
use Rattle.summary.proofs.summary_by.Reads as summary_by_reads
use Rattle.summary.proofs.second_of.Kinds as second_of_kinds
use Rattle.summary.proofs.second_of.Reads as second_of_reads

-- valid: ten seconds have no eleven with near DS
pub ds_above : (κs : Lfts 1) (a : Dens κs valid_kinds.ps) (s : AtExit (ended_of 1 valid_kinds.ps valid_kinds.r) κs)
    → a.0.now.length ≡ 10 → a.0.now.section.neards ≡ 11 → valid_reads.Post κs a true s → ⊥
ds_above κs a s ten eleven e =
    let h : a.0.now.section.neards ≤ a.0.now.length = (valid_parts a.0.now (sym e)).section.neards in omega (arith, ten, eleven)

-- valid: a sum above 3,200,000 times the length
pub sum_above : (κs : Lfts 1) (a : Dens κs valid_kinds.ps) (s : AtExit (ended_of 1 valid_kinds.ps valid_kinds.r) κs)
    → a.0.now.length ≡ 1 → a.0.now.path.sum ≡ 3200001 → valid_reads.Post κs a true s → ⊥
sum_above κs a s one above e =
    let h : a.0.now.path.sum ≤ 3200000 * a.0.now.length = (valid_parts a.0.now (sym e)).path.sum in omega (arith, one, above)

-- a stretch in which nothing was counted
abbrev quiet : ℕ → ℕ → Summary
quiet first length = record { first = first; length = length; frames = 0; heads = replicate 10 0; section = no_five; path = no_five }

-- join: 86,400 seconds and one that does not follow are 20, and not 21
pub place_first : (κs : Lfts 2) (a : Dens κs join_kinds.ps) (x : Result Summary Refusal) (s : AtExit (ended_of 2 join_kinds.ps join_kinds.r) κs)
    → a.0.now ≡ quiet 1 86400 → a.1.0.now ≡ quiet 90000 1 → said x ≡ 21 → join_reads.Post κs a x s → ⊥
unfolding join_of join_refusal valid_of follows_on five_good heads_good
place_first κs a x s v w r e =
    let h : said x ≡ (join_of (quiet 1 86400) (quiet 90000 1)).refusal = rw (v, w) at (join_reads.post-apart κs a x s e).refusal in
    let z : ◌≡◌ {A = ℕ} 21 20 = sym r ∙ h in
    omega arith

-- join: the empty summary follows on from any
pub empty_refused : (κs : Lfts 2) (a : Dens κs join_kinds.ps) (x : Result Summary Refusal) (s : AtExit (ended_of 2 join_kinds.ps join_kinds.r) κs)
    → a.0.now ≡ quiet 5 10 → a.1.0.now ≡ empty_summary → said x ≡ 21 → join_reads.Post κs a x s → ⊥
unfolding join_of join_refusal valid_of follows_on five_good heads_good
empty_refused κs a x s v w r e =
    let h : said x ≡ (join_of (quiet 5 10) empty_summary).refusal = rw (v, w) at (join_reads.post-apart κs a x s e).refusal in
    let z : ◌≡◌ {A = ℕ} 21 0 = sym r ∙ h in
    omega arith

-- empty: it has no first second
pub first_of_none : (κs : Lfts 0) (x : Summary) (s : AtExit (ended_of 0 empty_kinds.ps empty_kinds.r) κs)
    → x.first ≡ 1 → empty_reads.Post κs tt x s → ⊥
first_of_none κs x s f e = let z : ◌≡◌ {A = ℕ} 1 0 = sym f ∙ ap (λ (y : Summary). y.first) e in omega arith

-- second_of: far-end blocks are not near-end ones
pub far_for_near : (κs : Lfts 1) (a : Dens κs second_of_kinds.ps) (x : Summary) (s : AtExit (ended_of 1 second_of_kinds.ps second_of_kinds.r) κs)
    → get_or a.0.now 12 0 ≡ 0 → x.section.near ≡ 7 → second_of_reads.Post κs a x s → ⊥
unfolding second_of
far_for_near κs a x s none seven e = let z : ◌≡◌ {A = ℕ} 7 0 = sym seven ∙ ap (λ (y : Summary). y.section.near) e ∙ none in omega arith

-- numbers_of: the first second stands first, and the length behind it
pub length_first : (κs : Lfts 1) (a : Dens κs numbers_of_kinds.ps) (x : List ℕ) (s : AtExit (ended_of 1 numbers_of_kinds.ps numbers_of_kinds.r) κs)
    → a.0.now ≡ quiet 5 10 → get_or x 0 0 ≡ 10 → numbers_of_reads.Post κs a x s → ⊥
length_first κs a x s v w e =
    let h : x ≡ numbers_of (quiet 5 10) = rw v at e in
    let z : ◌≡◌ {A = ℕ} 10 5 = sym w ∙ ap (λ (l : List ℕ). get_or l 0 0) h in
    omega arith

-- summary_by: the path's five are the last
pub section_last : (κs : Lfts 1) (a : Dens κs summary_by_kinds.ps) (x : Summary) (s : AtExit (ended_of 1 summary_by_kinds.ps summary_by_kinds.r) κs)
    → get_or a.0.now 18 0 ≡ 7 → get_or a.0.now 13 0 ≡ 0 → x.section.near ≡ 7 → summary_by_reads.Post κs a x s → ⊥
section_last κs a x s path none seven e = let z : ◌≡◌ {A = ℕ} 7 0 = sym seven ∙ ap (λ (y : Summary). y.section.near) e ∙ none in omega arith
