-- Wrong answers that the contracts shut out, each for one input. Assumes nothing.
use mathlib.Core.Path.{◌≡◌, ap, sym, ◌∙◌}
use mathlib.Core.Bool.{true, false, true≢false}
use mathlib.Core.List.{List, [], ◌∷◌, ◌++◌}
use Prim.Native.Nat.{ℕ}
use native.Mathlib.Omega.{arith}
use contract.Lifetimes.{Lfts}
use borrow.Fn.Kinds.{Dens, ended_of}
use denote.Triple.Clauses.{AtExit}
use lib.ListN.{length, get_or, replicate}
use borrow.Author.Tests.{eq-eqb}
use Rattle.answer.specs.Over.{over}
use Rattle.codec.specs.Over.{bytes_in, laid}
use Rattle.words.specs.Words.{flat, counted_in, added_in}
use Rattle.overhead.specs.declared.Field.{Field}
use Rattle.overhead.specs.Overhead.{far_block}
use Rattle.overhead.specs.Bei.{bei_of, path_bei}
use Rattle.filter.specs.Filter.{up_of, add_of, filter_of}
use Rattle.filter.specs.Stat.{in_row, stat_of}
use Rattle.signal.specs.Signal.{signal_of, stands_for}
use Rattle.second.specs.declared.Blocks.{Blocks}
use Rattle.second.specs.Second.{counted_of, discard_of}
use Rattle.causes.specs.declared.Line.{Line}
use Rattle.causes.specs.declared.SectionStands.{SectionStands}
use Rattle.frame.specs.Layers.{line_of}
use Rattle.place.specs.declared.LineFrame.{LineFrame}
use Rattle.place.specs.declared.PathFrame.{PathFrame}
use Rattle.place.specs.Place.{section_record, section_numbers, path_record, path_numbers, tallied_in, opened_in}
use Rattle.place.proofs.section_at.Kinds as section_at_kinds
use Rattle.place.proofs.section_at.Reads as section_at_reads
use Rattle.place.proofs.path_at.Kinds as path_at_kinds
use Rattle.place.proofs.path_at.Reads as path_at_reads
use Rattle.place.proofs.line_at.Kinds as line_at_kinds
use Rattle.place.proofs.line_at.Reads as line_at_reads
use Rattle.place.proofs.tally_at.Kinds as tally_at_kinds
use Rattle.place.proofs.tally_at.Reads as tally_at_reads
use Rattle.place.proofs.close_at.Kinds as close_at_kinds
use Rattle.place.proofs.close_at.Reads as close_at_reads
use Rattle.place.proofs.open_at.Kinds as open_at_kinds
use Rattle.place.proofs.open_at.Reads as open_at_reads

-- section_at: bytes that are no record are not written
pub section_beyond : (κs : Lfts 1) (a : Dens κs section_at_kinds.ps) (x : SectionStands) (s : AtExit (ended_of 1 section_at_kinds.ps section_at_kinds.r) κs)
    → a.0.now ≡ 7 ∷ [] → s.0.now ≡ 0 ∷ [] → section_at_reads.Post κs a x s → ⊥
section_beyond κs a x s b end e =
    let h : ◌≡◌ {A = List ℕ} (0 ∷ []) (7 ∷ []) = sym end ∙ rw b at e.holds in
    let z : ◌≡◌ {A = ℕ} 0 7 = ap (λ (l : List ℕ). get_or l 0 0) h in
    omega arith

-- section_at: dDEG is what the record has
pub deg_forgotten : (κs : Lfts 1) (a : Dens κs section_at_kinds.ps) (x : SectionStands) (s : AtExit (ended_of 1 section_at_kinds.ps section_at_kinds.r) κs)
    → length a.0.now ≡ 288 → get_or a.0.now 7 0 ≡ 1 → x.deg ≡ false → section_at_reads.Post κs a x s → ⊥
deg_forgotten κs a x s n b off e =
    let t = eq-eqb _ _ n in
    let h = rw t at e.answers in
    true≢false (sym (eq-eqb _ _ b) ∙ sym (ap (λ (y : SectionStands). y.deg) h) ∙ off)

-- a field by its BEI and STAT
abbrev told : ℕ → ℕ → Field
told bei stat = record { tti = 0; bei = bei; bdi = false; iae = false; stat = stat }

-- section_at: a near-end block is not counted under SSF
pub counted_under_ssf : (κs : Lfts 1) (a : Dens κs section_at_kinds.ps) (x : SectionStands) (s : AtExit (ended_of 1 section_at_kinds.ps section_at_kinds.r) κs)
    → a.0.now ≡ replicate 288 0 → a.1.0 ≡ true → a.1.1.1.0 ≡ told 1 5 → a.1.1.1.1.0 ≡ 1 → get_or s.0.now 56 0 ≡ 1
    → section_at_reads.Post κs a x s → ⊥
unfolding bytes_in laid over section_record section_numbers bei_of path_bei far_block counted_of added_in add_of
counted_under_ssf κs a x s b ssf f sm end e =
    let z : ◌≡◌ {A = ℕ} 1 0 = sym end ∙ ap (λ (l : List ℕ). get_or l 56 0) (rw (b, ssf, f, sm) at e.holds) in
    omega arith

-- section_at: 1011 is the mark, and adds no eleven violations
pub eleven_added : (κs : Lfts 1) (a : Dens κs section_at_kinds.ps) (x : SectionStands) (s : AtExit (ended_of 1 section_at_kinds.ps section_at_kinds.r) κs)
    → a.0.now ≡ replicate 288 0 → a.1.0 ≡ false → a.1.1.1.0 ≡ told 11 0 → a.1.1.1.1.0 ≡ 0 → get_or s.0.now 52 0 ≡ 11
    → section_at_reads.Post κs a x s → ⊥
unfolding bytes_in laid over section_record section_numbers bei_of path_bei far_block counted_of added_in add_of
eleven_added κs a x s b ssf f sm end e =
    let z : ◌≡◌ {A = ℕ} 11 0 = sym end ∙ ap (λ (l : List ℕ). get_or l 52 0) (rw (b, ssf, f, sm) at e.holds) in
    omega arith

-- path_at: bytes that are no record are not written
pub path_beyond : (κs : Lfts 1) (a : Dens κs path_at_kinds.ps) (x : PathFrame) (s : AtExit (ended_of 1 path_at_kinds.ps path_at_kinds.r) κs)
    → a.0.now ≡ 7 ∷ [] → s.0.now ≡ 0 ∷ [] → path_at_reads.Post κs a x s → ⊥
path_beyond κs a x s b end e =
    let h : ◌≡◌ {A = List ℕ} (0 ∷ []) (7 ∷ []) = sym end ∙ rw b at e.holds in
    let z : ◌≡◌ {A = ℕ} 0 7 = ap (λ (l : List ℕ). get_or l 0 0) h in
    omega arith

-- path_at: a far-end block is not counted under dLCK
pub counted_under_lck : (κs : Lfts 1) (a : Dens κs path_at_kinds.ps) (x : PathFrame) (s : AtExit (ended_of 1 path_at_kinds.ps path_at_kinds.r) κs)
    → a.0.now ≡ replicate 41 0 ++ (5 ∷ 2 ∷ replicate 245 0) → a.1.0 ≡ false → a.1.1.1.0 ≡ told 1 5 → a.1.1.1.1.0 ≡ 0
    → get_or s.0.now 60 0 ≡ 1 → path_at_reads.Post κs a x s → ⊥
unfolding bytes_in laid over path_record path_numbers path_bei far_block counted_of added_in add_of stands_for signal_of stat_of in_row up_of
counted_under_lck κs a x s b ssf f pm end e =
    let z : ◌≡◌ {A = ℕ} 1 0 = sym end ∙ ap (λ (l : List ℕ). get_or l 60 0) (rw (b, ssf, f, pm) at e.holds) in
    omega arith

-- path_at: under dAIS the eight violations of a BEI are not added
pub summed_under_ais : (κs : Lfts 1) (a : Dens κs path_at_kinds.ps) (x : PathFrame) (s : AtExit (ended_of 1 path_at_kinds.ps path_at_kinds.r) κs)
    → a.0.now ≡ replicate 41 0 ++ (7 ∷ 2 ∷ replicate 245 0) → a.1.0 ≡ false → a.1.1.1.0 ≡ told 8 7 → a.1.1.1.1.0 ≡ 0
    → get_or s.0.now 52 0 ≡ 8 → path_at_reads.Post κs a x s → ⊥
unfolding bytes_in laid over path_record path_numbers path_bei far_block counted_of added_in add_of stands_for signal_of stat_of in_row up_of
summed_under_ais κs a x s b ssf f pm end e =
    let z : ◌≡◌ {A = ℕ} 8 0 = sym end ∙ ap (λ (l : List ℕ). get_or l 52 0) (rw (b, ssf, f, pm) at e.holds) in
    omega arith

-- line_at: value 1 is TSF-P
pub tsf_lost : (κs : Lfts 1) (a : Dens κs line_at_kinds.ps) (x : LineFrame) (s : AtExit (ended_of 1 line_at_kinds.ps line_at_kinds.r) κs)
    → a.1.1.1.1.0 ≡ 1 → x.line.tsf ≡ false → line_at_reads.Post κs a x s → ⊥
unfolding line_of
tsf_lost κs a x s one off e = true≢false (sym (sym off ∙ ap (λ (l : Line). l.tsf) (rw one at e.line)))

-- line_at: the head stays
pub head_laid_over : (κs : Lfts 1) (a : Dens κs line_at_kinds.ps) (x : LineFrame) (s : AtExit (ended_of 1 line_at_kinds.ps line_at_kinds.r) κs)
    → a.0.now ≡ 3 ∷ replicate 63 0 → get_or s.0.now 0 0 ≡ 0 → line_at_reads.Post κs a x s → ⊥
unfolding laid over
head_laid_over κs a x s b end e =
    let z : ◌≡◌ {A = ℕ} 0 3 = sym end ∙ ap (λ (l : List ℕ). get_or l 0 0) (rw b at e.holds) in
    omega arith

-- tally_at: 10 is no head
pub head_ten : (κs : Lfts 1) (a : Dens κs tally_at_kinds.ps) (s : AtExit (ended_of 1 tally_at_kinds.ps tally_at_kinds.r) κs)
    → a.0.now ≡ replicate 48 0 → a.1.0 ≡ 10 → get_or s.0.now 44 0 ≡ 1 → tally_at_reads.Post κs a tt s → ⊥
unfolding tallied_in counted_in laid over up_of
head_ten κs a s b head end e =
    let h : s.0.now ≡ tallied_in (replicate 48 0) 10 = rw (b, head) at e in
    let z : ◌≡◌ {A = ℕ} 1 0 = sym end ∙ ap (λ (l : List ℕ). get_or l 44 0) h in
    omega arith

-- tally_at: a frame under head 0 is one frame, and not two
pub clear_twice : (κs : Lfts 1) (a : Dens κs tally_at_kinds.ps) (s : AtExit (ended_of 1 tally_at_kinds.ps tally_at_kinds.r) κs)
    → a.0.now ≡ replicate 48 0 → a.1.0 ≡ 0 → get_or s.0.now 0 0 ≡ 2 → tally_at_reads.Post κs a tt s → ⊥
unfolding tallied_in counted_in laid over up_of
clear_twice κs a s b head end e =
    let h : s.0.now ≡ tallied_in (replicate 48 0) 0 = rw (b, head) at e in
    let z : ◌≡◌ {A = ℕ} 2 1 = sym end ∙ ap (λ (l : List ℕ). get_or l 0 0) h in
    omega arith

-- a record with DEGThr 1, DEGM 2 and one near-end block; dIAE stood in the second where `seen` is 1
abbrev closing : ℕ → List ℕ
closing seen = 1 ∷ 0 ∷ 0 ∷ 0 ∷ 2 ∷ (replicate 42 0 ++ (seen ∷ (replicate 8 0 ++ (1 ∷ replicate 231 0))))

-- close_at: a second in which dIAE stood has no near-end block
pub iae_keeps_near : (κs : Lfts 1) (a : Dens κs close_at_kinds.ps) (x : Blocks) (s : AtExit (ended_of 1 close_at_kinds.ps close_at_kinds.r) κs)
    → a.0.now ≡ closing 1 → x.near.0 ≡ 1 → close_at_reads.Post κs a x s → ⊥
unfolding bytes_in discard_of
iae_keeps_near κs a x s b near e =
    let z : ◌≡◌ {A = ℕ} 1 0 = sym near ∙ ap (λ (y : Blocks). y.near.0) (rw b at e.answers) in
    omega arith

-- close_at: a second in which dBIAE stood has no sum
pub biae_keeps_sum : (κs : Lfts 1) (a : Dens κs close_at_kinds.ps) (x : Blocks) (s : AtExit (ended_of 1 close_at_kinds.ps close_at_kinds.r) κs)
    → a.0.now ≡ replicate 48 0 ++ (1 ∷ 0 ∷ 0 ∷ 0 ∷ 1 ∷ replicate 235 0) → x.sum.0 ≡ 1 → close_at_reads.Post κs a x s → ⊥
unfolding bytes_in discard_of
biae_keeps_sum κs a x s b sum e =
    let z : ◌≡◌ {A = ℕ} 1 0 = sym sum ∙ ap (λ (y : Blocks). y.sum.0) (rw b at e.answers) in
    omega arith

-- close_at: the next second has no block
pub block_kept : (κs : Lfts 1) (a : Dens κs close_at_kinds.ps) (x : Blocks) (s : AtExit (ended_of 1 close_at_kinds.ps close_at_kinds.r) κs)
    → a.0.now ≡ closing 0 → get_or s.0.now 56 0 ≡ 1 → close_at_reads.Post κs a x s → ⊥
unfolding bytes_in laid over
block_kept κs a x s b end e =
    let z : ◌≡◌ {A = ℕ} 1 0 = sym end ∙ ap (λ (l : List ℕ). get_or l 56 0) (rw b at e.holds) in
    omega arith

-- close_at: a bad second is counted for dDEG
pub deg_not_counted : (κs : Lfts 1) (a : Dens κs close_at_kinds.ps) (x : Blocks) (s : AtExit (ended_of 1 close_at_kinds.ps close_at_kinds.r) κs)
    → a.0.now ≡ closing 0 → get_or s.0.now 8 0 ≡ 0 → close_at_reads.Post κs a x s → ⊥
unfolding bytes_in laid over discard_of filter_of up_of
deg_not_counted κs a x s b end e =
    let z : ◌≡◌ {A = ℕ} 0 1 = sym end ∙ ap (λ (l : List ℕ). get_or l 8 0) (rw b at e.holds) in
    omega arith

-- open_at: a second opens with no frame
pub frames_kept : (κs : Lfts 1) (a : Dens κs open_at_kinds.ps) (s : AtExit (ended_of 1 open_at_kinds.ps open_at_kinds.r) κs)
    → a.0.now ≡ replicate 112 5 → get_or s.0.now 64 0 ≡ 5 → open_at_reads.Post κs a tt s → ⊥
unfolding opened_in laid over flat
frames_kept κs a s b end e =
    let h : s.0.now ≡ opened_in (replicate 112 5) a.1.0 = rw b at e in
    let z : ◌≡◌ {A = ℕ} 5 0 = sym end ∙ ap (λ (l : List ℕ). get_or l 64 0) h in
    omega arith

-- open_at: alignment stays
pub alignment_lost : (κs : Lfts 1) (a : Dens κs open_at_kinds.ps) (s : AtExit (ended_of 1 open_at_kinds.ps open_at_kinds.r) κs)
    → a.0.now ≡ replicate 112 5 → get_or s.0.now 32 0 ≡ 0 → open_at_reads.Post κs a tt s → ⊥
unfolding opened_in laid over flat
alignment_lost κs a s b end e =
    let h : s.0.now ≡ opened_in (replicate 112 5) a.1.0 = rw b at e in
    let z : ◌≡◌ {A = ℕ} 0 5 = sym end ∙ ap (λ (l : List ℕ). get_or l 32 0) h in
    omega arith
