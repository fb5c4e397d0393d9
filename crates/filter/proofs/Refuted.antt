-- Wrong answers that the contracts shut out, each at one input. Assumes nothing.
use Prim.Native.Nat.{ℕ}
use mathlib.Core.Path.{◌≡◌, sym, ap, ◌∙◌}
use mathlib.Core.Bool.{Bool, true, false, true≢false, false≢true}
use native.Mathlib.Omega.{arith}
use Rattle.answer.specs.Answer.{NoAnswer}
use Rattle.filter.specs.declared.Filter.{Filter}
use Rattle.filter.specs.declared.Stat.{Stat}
use Rattle.filter.specs.Filter.{up_of, add_of, filter_of}
use Rattle.filter.specs.Stat.{in_row, stat_of}
use Rattle.filter.proofs.up.Kinds as up_kinds
use Rattle.filter.proofs.up.Reads as up_reads
use Rattle.filter.proofs.add.Kinds as add_kinds
use Rattle.filter.proofs.add.Reads as add_reads
use Rattle.filter.proofs.filter_step.Kinds as filter_kinds
use Rattle.filter.proofs.filter_step.Reads as filter_reads
use Rattle.filter.proofs.stat_step.Kinds as stat_kinds
use Rattle.filter.proofs.stat_step.Reads as stat_reads

-- x is no answer of `up`; of `filter_step` to a filter that is on or not, its run, n, whether to forget, and a bit; of `stat_step` to a value, its
-- run, whether one is accepted and which, whether to forget, and the next value
abbrev NotUp : ℕ → ℕ → ℕ → Type 0
NotUp run n x = NoAnswer up_kinds.ps up_kinds.r up_reads.Post (run, (n, tt)) x

abbrev NotFilter : Bool → ℕ → ℕ → Bool → Bool → Filter → Type 0
NotFilter on run n forget bit x = NoAnswer filter_kinds.ps filter_kinds.r filter_reads.Post (record { on = on; run = run }, (n, (forget, (bit, tt)))) x

abbrev NotStat : ℕ → ℕ → Bool → ℕ → Bool → ℕ → Stat → Type 0
NotStat value run known accepted forget next x =
    NoAnswer stat_kinds.ps stat_kinds.r stat_reads.Post (record { value = value; run = run; known = known; accepted = accepted }, (forget, (next, tt))) x

-- a counter that has come to its bound goes no further, and does not start again
pub up_beyond : NotUp 5 5 6
unfolding up_of
up_beyond s e = let h : ◌≡◌ {A = ℕ} 6 5 = e in omega arith

pub up_wraps : NotUp 5 5 0
unfolding up_of
up_wraps s e = let h : ◌≡◌ {A = ℕ} 0 5 = e in omega arith

-- one more is one
pub up_by_two : NotUp 3 5 5
unfolding up_of
up_by_two s e = let h : ◌≡◌ {A = ℕ} 5 4 = e in omega arith

-- what would go beyond the bound comes to it, and is not left out
pub add_leaves_out : NoAnswer add_kinds.ps add_kinds.r add_reads.Post (3, (8, (5, tt))) 3
unfolding add_of
add_leaves_out s e = let h : ◌≡◌ {A = ℕ} 3 5 = e in omega arith

-- the third of a filter of three is taken over: a filter is of n and n, not of five
pub never_taken_over : (x : Filter) → x.on ≡ false → NotFilter false 2 3 false true x
unfolding up_of filter_of
never_taken_over x w s e = false≢true (sym w ∙ ap (λ (f : Filter). f.on) e)

-- the fourth of a filter of five is not
pub fourth_taken_over : (x : Filter) → x.on ≡ true → NotFilter false 3 5 false true x
unfolding up_of filter_of
fourth_taken_over x w s e = true≢false (sym w ∙ ap (λ (f : Filter). f.on) e)

-- what is taken over starts a new run
pub run_goes_on : (x : Filter) → x.run ≡ 5 → NotFilter false 4 5 false true x
unfolding up_of filter_of
run_goes_on x w s e = let h : ◌≡◌ {A = ℕ} 5 0 = sym w ∙ ap (λ (f : Filter). f.run) e in omega arith

-- a filter is forgotten, and its run with it
pub on_kept : (x : Filter) → x.on ≡ true → NotFilter true 3 5 true true x
unfolding filter_of
on_kept x w s e = true≢false (sym w ∙ ap (λ (f : Filter). f.on) e)

pub run_not_forgotten : (x : Filter) → x.run ≡ 4 → NotFilter false 4 5 true true x
unfolding filter_of
run_not_forgotten x w s e = let h : ◌≡◌ {A = ℕ} 4 0 = sym w ∙ ap (λ (f : Filter). f.run) e in omega arith

-- two in a row are not three
pub two_accepted : (x : Stat) → x.known ≡ true → NotStat 6 1 false 0 false 6 x
unfolding up_of in_row stat_of
two_accepted x w s e = true≢false (sym w ∙ ap (λ (f : Stat). f.known) e)

-- another value leaves what is accepted, until it has stood three times
pub other_accepted : (x : Stat) → x.accepted ≡ 1 → NotStat 6 3 true 6 false 1 x
unfolding up_of in_row stat_of
other_accepted x w s e = let h : ◌≡◌ {A = ℕ} 1 6 = sym w ∙ ap (λ (f : Stat). f.accepted) e in omega arith

pub other_drops : (x : Stat) → x.known ≡ false → NotStat 6 3 true 6 false 1 x
unfolding up_of in_row stat_of
other_drops x w s e = false≢true (sym w ∙ ap (λ (f : Stat). f.known) e)

-- an accepted value is forgotten
pub value_kept : (x : Stat) → x.known ≡ true → NotStat 6 3 true 6 true 6 x
unfolding stat_of
value_kept x w s e = true≢false (sym w ∙ ap (λ (f : Stat). f.known) e)
