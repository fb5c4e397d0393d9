-- Wrong answers that the contracts shut out, each for one input. Assumes nothing.
use mathlib.Core.Path.{◌≡◌, ap, sym, ◌∙◌}
use mathlib.Core.Bool.{true, false, true≢false, false≢true}
use mathlib.Core.List.{List, [], ◌∷◌, ◌++◌}
use Prim.Native.Nat.{ℕ}
use native.Mathlib.Omega.{arith}
use contract.Lifetimes.{Lfts}
use borrow.Fn.Kinds.{Dens, ended_of}
use denote.Triple.Clauses.{AtExit}
use lib.ListN.{get_or, replicate}
use Rattle.codec.specs.Over.{bytes_in}
use Rattle.settings.specs.declared.Options.{Options}
use Rattle.second.specs.Second.{discard_of}
use Rattle.level.specs.declared.LevelStands.{LevelStands}
use Rattle.supervisor.specs.Supervisor.{blank_options}
use Rattle.std.specs.Prelude.{Ok}
use Rattle.ranges.specs.Sound.{below, layer_ranged}
use Rattle.numbers.specs.Held.{held_bytes}
use Rattle.rack.specs.Rack.{level_sound}
use Rattle.bay.specs.Bay.{chained, given_in, all_sound, bay_sound, fresh_record, blank_bay, gave_in, framed_in, figures_in, stands_in, traced_in}
use Rattle.bay.proofs.is_bay.Kinds as is_bay_kinds
use Rattle.bay.proofs.is_bay.Reads as is_bay_reads
use Rattle.bay.proofs.lay_bay.Kinds as lay_bay_kinds
use Rattle.bay.proofs.lay_bay.Reads as lay_bay_reads
use Rattle.bay.proofs.give_at.Kinds as give_at_kinds
use Rattle.bay.proofs.give_at.Reads as give_at_reads
use Rattle.bay.proofs.frame_at.Kinds as frame_at_kinds
use Rattle.bay.proofs.frame_at.Reads as frame_at_reads
use Rattle.bay.proofs.mark_at.Kinds as mark_at_kinds
use Rattle.bay.proofs.mark_at.Reads as mark_at_reads
use Rattle.bay.proofs.given_at.Kinds as given_at_kinds
use Rattle.bay.proofs.given_at.Reads as given_at_reads
use Rattle.bay.proofs.stands_at.Kinds as stands_at_kinds
use Rattle.bay.proofs.stands_at.Reads as stands_at_reads
use Rattle.bay.proofs.trace_at.Kinds as trace_at_kinds
use Rattle.bay.proofs.trace_at.Reads as trace_at_reads

-- a bay with a strip that begins so, all others spare, and blank records
abbrev begun : ℕ → ℕ → List ℕ
begun flags given = flags ∷ given ∷ (replicate 30 0 ++ chained (replicate 6 (fresh_record blank_options)))

-- is_bay: the bay of no level provisioned is one
pub blank_refused : (κs : Lfts 1) (a : Dens κs is_bay_kinds.ps) (s : AtExit (ended_of 1 is_bay_kinds.ps is_bay_kinds.r) κs)
    → a.0.now ≡ begun 0 0 → is_bay_reads.Post κs a false s → ⊥
unfolding bay_sound all_sound level_sound below bytes_in layer_ranged chained held_bytes
blank_refused κs a s b e =
    let h : false ≡ bay_sound (begun 0 0) = rw b at e in
    false≢true h

-- but not with flags above 3
pub four_flags : (κs : Lfts 1) (a : Dens κs is_bay_kinds.ps) (s : AtExit (ended_of 1 is_bay_kinds.ps is_bay_kinds.r) κs)
    → a.0.now ≡ begun 4 0 → is_bay_reads.Post κs a true s → ⊥
unfolding bay_sound below chained held_bytes
four_flags κs a s b e =
    let h : true ≡ bay_sound (begun 4 0) = rw b at e in
    true≢false h

-- nor with a level that is neither provisioned nor not
pub given_two : (κs : Lfts 1) (a : Dens κs is_bay_kinds.ps) (s : AtExit (ended_of 1 is_bay_kinds.ps is_bay_kinds.r) κs)
    → a.0.now ≡ begun 0 2 → is_bay_reads.Post κs a true s → ⊥
unfolding bay_sound below chained held_bytes
given_two κs a s b e =
    let h : true ≡ bay_sound (begun 0 2) = rw b at e in
    true≢false h

-- lay_bay: bytes that are no bay are not written
pub bay_beyond : (κs : Lfts 1) (a : Dens κs lay_bay_kinds.ps) (s : AtExit (ended_of 1 lay_bay_kinds.ps lay_bay_kinds.r) κs)
    → a.0.now ≡ 7 ∷ [] → s.0.now ≡ 0 ∷ [] → lay_bay_reads.Post κs a tt s → ⊥
unfolding blank_bay
bay_beyond κs a s b end e =
    let h : ◌≡◌ {A = List ℕ} (0 ∷ []) (7 ∷ []) = sym end ∙ rw b at e in
    let z : ◌≡◌ {A = ℕ} 0 7 = ap (λ (l : List ℕ). get_or l 0 0) h in
    omega arith

given_to : {b c : List ℕ} {n m : ℕ} (p : Options) → b ≡ c → n ≡ m → gave_in b n p ≡ gave_in c m p
given_to p e f = rw (e, f)

-- give_at: there is no level 0, and its flag would be the frame's
pub level_zero : (κs : Lfts 2) (a : Dens κs give_at_kinds.ps) (s : AtExit (ended_of 2 give_at_kinds.ps give_at_kinds.r) κs)
    → a.0.now ≡ replicate 1760 0 → a.1.0 ≡ 0 → get_or s.0.now 0 0 ≡ 1 → give_at_reads.Post κs a tt s → ⊥
unfolding gave_in
level_zero κs a s b n end e =
    let h : s.0.now ≡ gave_in (replicate 1760 0) 0 a.1.1.0.now = e ∙ given_to a.1.1.0.now b n in
    let z : ◌≡◌ {A = ℕ} 1 0 = sym end ∙ ap (λ (l : List ℕ). get_or l 0 0) h in
    omega arith

-- give_at: of level 2 it is its own flag
pub flag_before : (κs : Lfts 2) (a : Dens κs give_at_kinds.ps) (s : AtExit (ended_of 2 give_at_kinds.ps give_at_kinds.r) κs)
    → a.0.now ≡ replicate 1760 0 → a.1.0 ≡ 2 → get_or s.0.now 1 0 ≡ 1 → give_at_reads.Post κs a tt s → ⊥
unfolding gave_in
flag_before κs a s b n end e =
    let h : s.0.now ≡ gave_in (replicate 1760 0) 2 a.1.1.0.now = e ∙ given_to a.1.1.0.now b n in
    let z : ◌≡◌ {A = ℕ} 1 0 = sym end ∙ ap (λ (l : List ℕ). get_or l 1 0) h in
    omega arith

-- frame_at: the flags are kept, with no level provisioned too
pub flags_lost : (κs : Lfts 2) (a : Dens κs frame_at_kinds.ps) (s : AtExit (ended_of 2 frame_at_kinds.ps frame_at_kinds.r) κs)
    → a.0.now ≡ replicate 1760 0 → a.1.0 ≡ 2 → get_or s.0.now 0 0 ≡ 0 → frame_at_reads.Post κs a tt s → ⊥
unfolding framed_in
flags_lost κs a s b flags end e =
    let z : ◌≡◌ {A = ℕ} 0 2 = sym end ∙ ap (λ (l : List ℕ). get_or l 0 0) (rw (b, flags) at e) in
    omega arith

-- frame_at: a level that is not provisioned is not stepped: the run of its STAT stays 0
pub silent_stepped : (κs : Lfts 2) (a : Dens κs frame_at_kinds.ps) (s : AtExit (ended_of 2 frame_at_kinds.ps frame_at_kinds.r) κs)
    → a.0.now ≡ replicate 1760 0 → a.1.0 ≡ 0 → get_or s.0.now 74 0 ≡ 1 → frame_at_reads.Post κs a tt s → ⊥
unfolding framed_in chained
silent_stepped κs a s b flags end e =
    let z : ◌≡◌ {A = ℕ} 1 0 = sym end ∙ ap (λ (l : List ℕ). get_or l 74 0) (rw (b, flags) at e) in
    omega arith

-- level 2 provisioned, and its near-end count is 5
abbrev counted : List ℕ
counted = 0 ∷ 0 ∷ 1 ∷ (replicate 373 0 ++ (5 ∷ replicate 1383 0))

-- mark_at: the figures of level 2 are not those of level 1
pub figures_early : (κs : Lfts 1) (a : Dens κs mark_at_kinds.ps) (x : List ℕ) (s : AtExit (ended_of 1 mark_at_kinds.ps mark_at_kinds.r) κs)
    → a.0.now ≡ counted → get_or x 0 0 ≡ 5 → mark_at_reads.Post κs a x s → ⊥
unfolding figures_in chained
figures_early κs a x s b five e =
    let z : ◌≡◌ {A = ℕ} 5 0 = sym five ∙ ap (λ (l : List ℕ). get_or l 0 0) (rw b at e.answers) in
    omega arith

-- mark_at: they are its own
pub figures_none : (κs : Lfts 1) (a : Dens κs mark_at_kinds.ps) (x : List ℕ) (s : AtExit (ended_of 1 mark_at_kinds.ps mark_at_kinds.r) κs)
    → a.0.now ≡ counted → get_or x 5 0 ≡ 0 → mark_at_reads.Post κs a x s → ⊥
unfolding figures_in chained bytes_in discard_of
figures_none κs a x s b none e =
    let z : ◌≡◌ {A = ℕ} 0 5 = sym none ∙ ap (λ (l : List ℕ). get_or l 5 0) (rw b at e.answers) in
    omega arith

-- given_at: there is no level 7
pub level_seven : (κs : Lfts 1) (a : Dens κs given_at_kinds.ps) (s : AtExit (ended_of 1 given_at_kinds.ps given_at_kinds.r) κs)
    → a.0.now ≡ replicate 1760 1 → a.1.0 ≡ 7 → given_at_reads.Post κs a true s → ⊥
unfolding given_in
level_seven κs a s b n e =
    let h : true ≡ given_in (replicate 1760 1) 7 = rw (b, n) at e in
    true≢false h

-- stands_at: of a level that is not provisioned SSF does not stand
pub silent_ssf : (κs : Lfts 1) (a : Dens κs stands_at_kinds.ps) (x : LevelStands) (s : AtExit (ended_of 1 stands_at_kinds.ps stands_at_kinds.r) κs)
    → a.0.now ≡ replicate 1760 0 → a.1.0 ≡ 1 → x.ssf ≡ true → stands_at_reads.Post κs a x s → ⊥
unfolding stands_in given_in
silent_ssf κs a x s b n on e = true≢false (sym on ∙ ap (λ (d : LevelStands). d.ssf) (rw (b, n) at e))

-- trace_at: a level that is not provisioned has none, and zeros are no accepted trace
pub silent_trace : (κs : Lfts 1) (a : Dens κs trace_at_kinds.ps) (x : List ℕ) (s : AtExit (ended_of 1 trace_at_kinds.ps trace_at_kinds.r) κs)
    → a.0.now ≡ replicate 1760 0 → a.1.0 ≡ 1 → trace_at_reads.Post κs a (Ok x) s → ⊥
unfolding traced_in given_in
silent_trace κs a x s b n e =
    let z : ◌≡◌ {A = ℕ} 0 13 = rw (b, n) at e.0 in
    omega arith
