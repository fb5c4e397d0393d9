-- Wrong answers that the contracts of this crate shut out, each at one input. Assumes nothing.
use Prim.Native.Nat.{ℕ}
use mathlib.Core.Path.{◌≡◌, ap}
use mathlib.Core.Bool.{true, false}
use native.Mathlib.Omega.{arith}
use Rattle.std.proofs.Common.{Ok, Err}
use Rattle.answer.specs.Answer.{NoAnswer}
use Rattle.answer.specs.Refusal.{said}
use Rattle.answer.specs.declared.Refusal.TheVariants.{UnknownOrder, DegMonitoring, NotNext, NoSummary}
use Rattle.answer.proofs.test.Kinds as test_kinds
use Rattle.answer.proofs.test.Reads as test_reads
use Rattle.answer.proofs.Refusal.number.Kinds as number_kinds
use Rattle.answer.proofs.Refusal.number.Reads as number_reads

-- a test that passes is not refused
pub passed_refused : NoAnswer test_kinds.ps test_kinds.r test_reads.Post (true, (UnknownOrder, tt)) (Err UnknownOrder)
passed_refused s e = let h : ◌≡◌ {A = ℕ} 5 0 = ap said e in omega arith

-- one that fails is, and by its own refusal, whatever those after it would say
pub failed_accepted : NoAnswer test_kinds.ps test_kinds.r test_reads.Post (false, (UnknownOrder, tt)) (Ok tt)
failed_accepted s e = let h : ◌≡◌ {A = ℕ} 0 5 = ap said e in omega arith

pub later_first : NoAnswer test_kinds.ps test_kinds.r test_reads.Post (false, (UnknownOrder, tt)) (Err DegMonitoring)
later_first s e = let h : ◌≡◌ {A = ℕ} 7 5 = ap said e in omega arith

-- the numbers 22 to 25 are no refusal: the last one is 26
pub next_number : NoAnswer number_kinds.ps number_kinds.r number_reads.Post (NoSummary, tt) 22
next_number s e = let h : ◌≡◌ {A = ℕ} 22 26 = e in omega arith

-- no refusal says what an accepted call says
pub number_zero : NoAnswer number_kinds.ps number_kinds.r number_reads.Post (NotNext, tt) 0
number_zero s e = let h : ◌≡◌ {A = ℕ} 0 21 = e in omega arith
