-- Wrong answers that the contracts shut out. Assumes nothing.
use mathlib.Core.Path.{◌≡◌, refl, ap, sym, ◌∙◌}
use mathlib.Core.List.{List, [], ◌∷◌}
use Prim.Native.Nat.{ℕ}
use native.Mathlib.Omega.{arith}
use contract.Lifetimes.{Lfts}
use borrow.Fn.Kinds.{Dens, ended_of}
use denote.Triple.Clauses.{AtExit}
use lib.ListN.{length, get_or}
use Rattle.words.specs.Words.{flat}
use Rattle.codec.specs.Over.{laid}
use Rattle.codec.specs.Pieces.{lays}
use Rattle.supervisor.specs.declared.Supervisor.{Supervisor}
use Rattle.supervisor.specs.Supervisor.{blank_supervisor}
use Rattle.image.specs.Image.{bytes_of, pieces_of}
use Rattle.image.proofs.Bytes.{whole_image}
use Rattle.image.proofs.lay.Kinds as lay_kinds
use Rattle.image.proofs.lay.Reads as lay_reads

-- lay: nothing is laid beyond the bytes
none_laid : lays [] 0 (pieces_of blank_supervisor) ≡ []
unfolding laid flat
none_laid = refl

pub laid_beyond : (κs : Lfts 1) (a : Dens κs lay_kinds.ps) (s : AtExit (ended_of 1 lay_kinds.ps lay_kinds.r) κs)
    → a.0.now ≡ [] → a.1.0 ≡ blank_supervisor → s.0.now ≡ 1 ∷ [] → lay_reads.Post κs a tt s → ⊥
laid_beyond κs a s b p end e =
    let d : lays a.0.now 0 (pieces_of a.1.0) ≡ lays [] 0 (pieces_of a.1.0) = ap (λ (l : List ℕ). lays l 0 (pieces_of a.1.0)) b in
    let h : lays [] 0 (pieces_of a.1.0) ≡ lays [] 0 (pieces_of blank_supervisor) = ap (λ (y : Supervisor). lays [] 0 (pieces_of y)) p in
    let z : ◌≡◌ {A = ℕ} 1 0 = ap length (sym end ∙ e.holds ∙ d ∙ h ∙ none_laid) in
    omega arith

-- over 688 bytes: the first is k, whatever stood there
first_byte : (s : Supervisor) → get_or (bytes_of s) 0 0 ≡ s.settings.k
unfolding bytes_of
first_byte s = refl

pub k_kept : (κs : Lfts 1) (a : Dens κs lay_kinds.ps) (s : AtExit (ended_of 1 lay_kinds.ps lay_kinds.r) κs)
    → length a.0.now ≡ 688 → get_or a.0.now 0 0 ≡ 0 → a.1.0.settings.k ≡ 3 → get_or s.0.now 0 0 ≡ 0 → lay_reads.Post κs a tt s → ⊥
k_kept κs a s n b k end e =
    let h : s.0.now ≡ bytes_of a.1.0 = whole_image a.0.now a.1.0 s.0.now n e in
    let z : ◌≡◌ {A = ℕ} 0 3 = sym end ∙ ap (λ (l : List ℕ). get_or l 0 0) h ∙ first_byte a.1.0 ∙ k in
    omega arith
