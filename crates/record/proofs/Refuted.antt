-- Wrong answers that the contracts shut out, each at one input. Assumes nothing.
use Prim.Native.Nat.{ℕ}
use mathlib.Core.Path.{◌≡◌, ap, ◌∙◌}
use mathlib.Core.List.{List, [], ◌∷◌}
use native.Mathlib.Omega.{arith}
use contract.Lifetimes.{Lfts}
use borrow.Fn.Kinds.{Dens, ended_of}
use denote.Triple.Clauses.{AtExit}
use Rattle.settings.specs.declared.Request.{Request}
use Rattle.record.specs.declared.Record.{Record}
use Rattle.record.specs.declared.Record.TheVariants.{Mark, Provisioning, Level, LevelFrame, Refused}
use Rattle.record.specs.Record.{kind_of, refusal_in, of_kind, record_of, section_in, path_in, level_in}
use Rattle.record.proofs.length_of.Kinds as length_kinds
use Rattle.record.proofs.length_of.Reads as length_reads
use Rattle.record.proofs.refusal_in.Kinds as refusal_kinds
use Rattle.record.proofs.refusal_in.Reads as refusal_reads
use Rattle.record.proofs.frames_in.Kinds as frames_kinds
use Rattle.record.proofs.frames_in.Reads as frames_reads
use Rattle.record.proofs.record_at.Kinds as record_kinds
use Rattle.record.proofs.record_at.Reads as record_reads
use Rattle.record.proofs.section_in.Kinds as section_kinds
use Rattle.record.proofs.section_in.Reads as section_reads
use Rattle.record.proofs.path_in.Kinds as path_kinds
use Rattle.record.proofs.path_in.Reads as path_reads
use Rattle.record.proofs.level_in.Kinds as level_kinds
use Rattle.record.proofs.level_in.Reads as level_reads

-- the length counts kind and body, and not its own two bytes
pub whole_record : (κs : Lfts 0) (s : AtExit (ended_of 0 length_kinds.ps length_kinds.r) κs) → length_reads.Post κs (Provisioning, tt) 83 s → ⊥
whole_record κs s e = let h : ◌≡◌ {A = ℕ} 83 81 = e in omega arith

-- a level has one layer's names, and no k
pub two_layers : (κs : Lfts 0) (s : AtExit (ended_of 0 length_kinds.ps length_kinds.r) κs) → length_reads.Post κs (Level, tt) 81 s → ⊥
two_layers κs s e = let h : ◌≡◌ {A = ℕ} 81 42 = e in omega arith

-- a cut record keeps its own number
pub cut_unknown : (κs : Lfts 0) (s : AtExit (ended_of 0 refusal_kinds.ps refusal_kinds.r) κs) → refusal_reads.Post κs (Refused 14, tt) 15 s → ⊥
cut_unknown κs s e = let h : ◌≡◌ {A = ℕ} 15 14 = e in omega arith

-- a mark is no frame
pub mark_counted : (κs : Lfts 0) (s : AtExit (ended_of 0 frames_kinds.ps frames_kinds.r) κs) → frames_reads.Post κs (Mark, tt) 1 s → ⊥
mark_counted κs s e = let h : ◌≡◌ {A = ℕ} 1 0 = e in omega arith

-- a frame with the levels' counts is a frame
pub level_frame_uncounted : (κs : Lfts 0) (s : AtExit (ended_of 0 frames_kinds.ps frames_kinds.r) κs) → frames_reads.Post κs (LevelFrame, tt) 0 s → ⊥
level_frame_uncounted κs s e = let h : ◌≡◌ {A = ℕ} 0 1 = e in omega arith

-- what stands at the front of these bytes
module _ (κs : Lfts 1) (a : Dens κs record_kinds.ps) (s : AtExit (ended_of 1 record_kinds.ps record_kinds.r) κs) (front : a.1.0 ≡ 0) where
  is : (bytes : List ℕ) → a.0.now ≡ bytes → (r : Record) → record_reads.Post κs a r s → r ≡ record_of bytes
  is bytes b r e = e ∙ rw (front, b)

  -- four bytes are enough for a mark
  pub mark_cut : a.0.now ≡ 2 ∷ 0 ∷ 2 ∷ 0 ∷ [] → record_reads.Post κs a (Refused 14) s → ⊥
  unfolding record_of of_kind
  mark_cut b e = let h : ◌≡◌ {A = ℕ} 0 2 = ap kind_of (is (2 ∷ 0 ∷ 2 ∷ 0 ∷ []) b (Refused 14) e) in omega arith

  -- the low byte stands first
  pub high_first : a.0.now ≡ 0 ∷ 2 ∷ 0 ∷ 2 ∷ [] → record_reads.Post κs a Mark s → ⊥
  unfolding record_of of_kind
  high_first b e = let h : ◌≡◌ {A = ℕ} 2 0 = ap kind_of (is (0 ∷ 2 ∷ 0 ∷ 2 ∷ []) b Mark e) in omega arith

  -- a length that is wrong for its kind is 15, however few bytes are left
  pub wrong_cut : a.0.now ≡ 69 ∷ 0 ∷ 2 ∷ 0 ∷ [] → record_reads.Post κs a (Refused 14) s → ⊥
  unfolding record_of of_kind
  wrong_cut b e = let h : ◌≡◌ {A = ℕ} 14 15 = ap refusal_in (is (69 ∷ 0 ∷ 2 ∷ 0 ∷ []) b (Refused 14) e) in omega arith

  -- kind 4 with a byte too many is 15, and no level
  pub level_longer : a.0.now ≡ 43 ∷ 0 ∷ 4 ∷ 0 ∷ [] → record_reads.Post κs a Level s → ⊥
  unfolding record_of of_kind
  level_longer b e = let h : ◌≡◌ {A = ℕ} 0 15 = ap refusal_in (is (43 ∷ 0 ∷ 4 ∷ 0 ∷ []) b Level e) in omega arith

  -- kind 6 is none
  pub kind_six : a.0.now ≡ 2 ∷ 0 ∷ 6 ∷ 0 ∷ [] → record_reads.Post κs a (Refused 14) s → ⊥
  unfolding record_of of_kind
  kind_six b e = let h : ◌≡◌ {A = ℕ} 14 15 = ap refusal_in (is (2 ∷ 0 ∷ 6 ∷ 0 ∷ []) b (Refused 14) e) in omega arith

-- the first bytes of a body: k, then the section's five and the path's, then the modes
abbrev pub body : List ℕ
body = 1 ∷ 2 ∷ 0 ∷ 0 ∷ 0 ∷ 3 ∷ 4 ∷ 0 ∷ 0 ∷ 0 ∷ 5 ∷ 1 ∷ 2 ∷ 0 ∷ 1 ∷ []

-- DEGThr has its low byte first
pub thr_high : (κs : Lfts 1) (a : Dens κs section_kinds.ps) (s : AtExit (ended_of 1 section_kinds.ps section_kinds.r) κs) (r : Request)
    → a.0.now ≡ body → section_reads.Post κs a r s → r.thr ≡ 33554432 → ⊥
thr_high κs a s r b e f =
    let h : r ≡ section_in body = e ∙ rw b in
    let g : ◌≡◌ {A = ℕ} r.thr 2 = ap (λ (q : Request). q.thr) h in
    omega arith

-- the path's mode follows the section's, and is not the section's
pub mode_shared : (κs : Lfts 1) (a : Dens κs path_kinds.ps) (s : AtExit (ended_of 1 path_kinds.ps path_kinds.r) κs) (r : Request)
    → a.0.now ≡ body → path_reads.Post κs a r s → r.mode ≡ 1 → ⊥
mode_shared κs a s r b e f =
    let h : r ≡ path_in body = e ∙ rw b in
    let g : ◌≡◌ {A = ℕ} r.mode 2 = ap (λ (q : Request). q.mode) h in
    omega arith

-- the first bytes of a level's body: the level, DEGThr, DEGM, the mode, TIMActDis
abbrev pub level_body : List ℕ
level_body = 6 ∷ 2 ∷ 0 ∷ 0 ∷ 0 ∷ 3 ∷ 1 ∷ 2 ∷ []

-- TIMActDis follows the mode
pub dis_after_names : (κs : Lfts 1) (a : Dens κs level_kinds.ps) (s : AtExit (ended_of 1 level_kinds.ps level_kinds.r) κs) (r : Request)
    → a.0.now ≡ level_body → level_reads.Post κs a r s → r.dis ≡ 0 → ⊥
dis_after_names κs a s r b e f =
    let h : r ≡ level_in level_body = e ∙ rw b in
    let g : ◌≡◌ {A = ℕ} r.dis 2 = ap (λ (q : Request). q.dis) h in
    omega arith
