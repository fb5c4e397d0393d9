-- Wrong answers that the contracts shut out, each for one input. Assumes nothing.
use Prim.Native.Nat.{ℕ}
use mathlib.Core.Path.{◌≡◌}
use mathlib.Core.List.{[]}
use native.Mathlib.Omega.{arith}
use contract.Lifetimes.{Lfts}
use borrow.Fn.Kinds.{Dens, ended_of}
use denote.Triple.Clauses.{AtExit}
use lib.ListN.{replicate}
use Rattle.words.specs.Words.{words_of}
use Rattle.summary.specs.Summary.{five_good, heads_good, valid_of, second_of}
use Rattle.pack.specs.Pack.{recorded_of, summary_refusal, joined_refusal}
use Rattle.pack.proofs.summarize.Kinds as summarize_kinds
use Rattle.pack.proofs.summarize.Reads as summarize_reads
use Rattle.pack.proofs.join_bytes.Kinds as join_kinds
use Rattle.pack.proofs.join_bytes.Reads as join_reads

-- summarize: a second whose number is 0 is none
pub second_zero : (κs : Lfts 2) (a : Dens κs summarize_kinds.ps) (s : AtExit (ended_of 2 summarize_kinds.ps summarize_kinds.r) κs)
    → a.0.now ≡ replicate 88 0 → summarize_reads.Post κs a 0 s → ⊥
unfolding summary_refusal recorded_of second_of valid_of heads_good five_good words_of
second_zero κs a s b e = let z : ◌≡◌ {A = ℕ} 0 26 = rw b at e.answers in omega arith

-- join_bytes: what is not 184 bytes long is no summary, and not an empty one
pub none_is_empty : (κs : Lfts 3) (a : Dens κs join_kinds.ps) (s : AtExit (ended_of 3 join_kinds.ps join_kinds.r) κs)
    → a.0.now ≡ [] → join_reads.Post κs a 0 s → ⊥
unfolding joined_refusal
none_is_empty κs a s b e = let z : ◌≡◌ {A = ℕ} 0 26 = rw b at e.answers in omega arith
