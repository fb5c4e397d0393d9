-- Wrong answers that the contracts shut out, each for one input. Assumes nothing.
use mathlib.Core.Path.{◌≡◌, refl, ap, sym, ◌∙◌}
use mathlib.Core.Bool.{Bool, true, false, ◌&&◌, true≢false}
use mathlib.Core.List.{List, [], ◌∷◌}
use Prim.Native.Nat.{ℕ}
use native.Mathlib.Omega.{arith}
use contract.Lifetimes.{Lfts}
use borrow.Fn.Kinds.{Dens, ended_of}
use denote.Triple.Clauses.{AtExit}
use lib.ListN.{get_or, replicate}
use Rattle.answer.specs.Over.{over}
use Rattle.codec.specs.Over.{laid}
use Rattle.words.specs.Words.{counted_in, added_in}
use Rattle.filter.specs.declared.Filter.{Filter}
use Rattle.filter.specs.declared.Stat.{Stat}
use Rattle.filter.specs.Filter.{up_of, add_of, filter_of}
use Rattle.second.specs.Second.{counted_of}
use Rattle.overhead.specs.Bei.{is_far}
use Rattle.fields.specs.Fields.{stat_laid, flags_laid, counts_in}
use Rattle.fields.proofs.filter_at.Kinds as filter_at_kinds
use Rattle.fields.proofs.filter_at.Reads as filter_at_reads
use Rattle.fields.proofs.stat_in.Kinds as stat_in_kinds
use Rattle.fields.proofs.stat_in.Reads as stat_in_reads
use Rattle.fields.proofs.lay_stat.Kinds as lay_stat_kinds
use Rattle.fields.proofs.lay_stat.Reads as lay_stat_reads
use Rattle.fields.proofs.flags_at.Kinds as flags_at_kinds
use Rattle.fields.proofs.flags_at.Reads as flags_at_reads
use Rattle.fields.proofs.frame_at.Kinds as frame_at_kinds
use Rattle.fields.proofs.frame_at.Reads as frame_at_reads
use Rattle.fields.proofs.counts_at.Kinds as counts_at_kinds
use Rattle.fields.proofs.counts_at.Reads as counts_at_reads

-- filter_at: the fifth bit in a row is taken over
pub fifth_not_taken : (κs : Lfts 1) (a : Dens κs filter_at_kinds.ps) (x : Filter) (s : AtExit (ended_of 1 filter_at_kinds.ps filter_at_kinds.r) κs)
    → a.0.now ≡ 0 ∷ 4 ∷ [] → a.1.0 ≡ 5 → a.1.1.0 ≡ false → a.1.1.1.0 ≡ true → x.on ≡ false → filter_at_reads.Post κs a x s → ⊥
unfolding filter_of up_of
fifth_not_taken κs a x s b n forget bit off e =
    true≢false (sym (sym off ∙ ap (λ (f : Filter). f.on) (rw (b, n, forget, bit) at e.answers)))

-- filter_at: three bytes are no filter, and are not written
pub filter_of_three : (κs : Lfts 1) (a : Dens κs filter_at_kinds.ps) (x : Filter) (s : AtExit (ended_of 1 filter_at_kinds.ps filter_at_kinds.r) κs)
    → a.0.now ≡ 1 ∷ 4 ∷ 7 ∷ [] → get_or s.0.now 0 0 ≡ 0 → filter_at_reads.Post κs a x s → ⊥
filter_of_three κs a x s b end e =
    let z : ◌≡◌ {A = ℕ} 0 1 = sym end ∙ ap (λ (l : List ℕ). get_or l 0 0) (rw b at e.holds) in
    omega arith

-- stat_in: the accepted value is the fourth byte, and not the first
pub value_is_accepted : (κs : Lfts 0) (a : Dens κs stat_in_kinds.ps) (x : Stat) (s : AtExit (ended_of 0 stat_in_kinds.ps stat_in_kinds.r) κs)
    → a.0 ≡ 6 ∷ 1 ∷ 1 ∷ 7 ∷ [] → x.accepted ≡ 6 → stat_in_reads.Post κs a x s → ⊥
value_is_accepted κs a x s b wrong e =
    let z : ◌≡◌ {A = ℕ} 6 7 = sym wrong ∙ ap (λ (t : Stat). t.accepted) (rw b at e) in
    omega arith

-- lay_stat: the accepted value has a byte of its own
pub accepted_is_value : (κs : Lfts 1) (a : Dens κs lay_stat_kinds.ps) (s : AtExit (ended_of 1 lay_stat_kinds.ps lay_stat_kinds.r) κs)
    → a.0.now ≡ replicate 4 0 → a.1.0 ≡ record { value = 6; run = 1; known = true; accepted = 7 } → get_or s.0.now 3 0 ≡ 6
    → lay_stat_reads.Post κs a tt s → ⊥
accepted_is_value κs a s b stat end e =
    let h : s.0.now ≡ stat_laid (replicate 4 0) (record { value = 6; run = 1; known = true; accepted = 7 }) = rw (b, stat) at e in
    let z : ◌≡◌ {A = ℕ} 6 7 = sym end ∙ ap (λ (l : List ℕ). get_or l 3 0) h in
    omega arith

-- flags_at: a flag that was raised stays
pub flag_taken_back : (κs : Lfts 1) (a : Dens κs flags_at_kinds.ps) (s : AtExit (ended_of 1 flags_at_kinds.ps flags_at_kinds.r) κs)
    → a.0.now ≡ 0 ∷ 0 ∷ 0 ∷ 1 ∷ [] → a.1.1.1.1.0 ≡ false → get_or s.0.now 3 0 ≡ 0 → flags_at_reads.Post κs a tt s → ⊥
flag_taken_back κs a s b biae end e =
    let h : s.0.now ≡ flags_laid a.1.0 a.1.1.0 a.1.1.1.0 false (0 ∷ 0 ∷ 0 ∷ 1 ∷ []) = rw (b, biae) at e in
    let z : ◌≡◌ {A = ℕ} 0 1 = sym end ∙ ap (λ (l : List ℕ). get_or l 3 0) h in
    omega arith

and_false : (x : Bool) → (x && false) ≡ false
and_false true = refl
and_false false = refl

-- counts_at: of the same words and blocks
counted_by_lem : {w v : List ℕ} {n m f g : Bool} {x y : ℕ} → w ≡ v → n ≡ m → f ≡ g → x ≡ y → counts_in n f x w ≡ counts_in m g y v
counted_by_lem p q r t = cc

-- counts_at: a far-end block is not counted at the near end
pub far_for_near : (κs : Lfts 1) (a : Dens κs counts_at_kinds.ps) (s : AtExit (ended_of 1 counts_at_kinds.ps counts_at_kinds.r) κs)
    → a.0.now ≡ replicate 12 0 → a.1.0 ≡ false → a.1.1.0 ≡ true → a.1.1.1.0 ≡ 8 → get_or s.0.now 4 0 ≡ 1 → counts_at_reads.Post κs a tt s → ⊥
unfolding counted_in added_in laid over up_of add_of
far_for_near κs a s b near far more end e =
    let h : s.0.now ≡ counts_in false true 8 (replicate 12 0) = e ∙ counted_by_lem b near far more in
    let z : ◌≡◌ {A = ℕ} 1 0 = sym end ∙ ap (λ (l : List ℕ). get_or l 4 0) h in
    omega arith

-- counts_at: eight violations are eight in the sum, and not one
pub one_for_eight : (κs : Lfts 1) (a : Dens κs counts_at_kinds.ps) (s : AtExit (ended_of 1 counts_at_kinds.ps counts_at_kinds.r) κs)
    → a.0.now ≡ replicate 12 0 → a.1.0 ≡ false → a.1.1.0 ≡ true → a.1.1.1.0 ≡ 8 → get_or s.0.now 0 0 ≡ 1 → counts_at_reads.Post κs a tt s → ⊥
unfolding counted_in added_in laid over up_of add_of
one_for_eight κs a s b near far more end e =
    let h : s.0.now ≡ counts_in false true 8 (replicate 12 0) = e ∙ counted_by_lem b near far more in
    let z : ◌≡◌ {A = ℕ} 1 8 = sym end ∙ ap (λ (l : List ℕ). get_or l 0 0) h in
    omega arith

-- frame_at: where counting is stopped, a violation is no block
pub stopped_block : (κs : Lfts 1) (a : Dens κs frame_at_kinds.ps) (s : AtExit (ended_of 1 frame_at_kinds.ps frame_at_kinds.r) κs)
    → a.0.now ≡ replicate 12 0 → a.1.0 ≡ 1 → a.1.1.1.0 ≡ true → get_or s.0.now 4 0 ≡ 1 → frame_at_reads.Post κs a tt s → ⊥
unfolding counted_in added_in laid over up_of add_of counted_of
stopped_block κs a s b v stops end e =
    let h : s.0.now ≡ counts_in false (is_far a.1.1.0 && false) 0 (replicate 12 0) = rw (b, v, stops) at e in
    let k : s.0.now ≡ counts_in false false 0 (replicate 12 0) = h ∙ ap (λ (g : Bool). counts_in false g 0 (replicate 12 0)) (and_false (is_far a.1.1.0)) in
    let z : ◌≡◌ {A = ℕ} 1 0 = sym end ∙ ap (λ (l : List ℕ). get_or l 4 0) k in
    omega arith
