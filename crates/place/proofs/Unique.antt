-- No second answer, and no second content of lent memory, meets the contract of a public function. Assumes nothing.
use mathlib.Core.Path.{◌≡◌, sym, ◌∙◌}
use mathlib.Core.List.{List}
use Prim.Native.Nat.{ℕ}
use Rattle.answer.specs.Answer.{OneAnswer, OneEnd}
use Rattle.place.specs.declared.LineFrame.{LineFrame}
use Rattle.place.proofs.section_at.Kinds as section_at_kinds
use Rattle.place.proofs.section_at.Reads as section_at_reads
use Rattle.place.proofs.path_at.Kinds as path_at_kinds
use Rattle.place.proofs.path_at.Reads as path_at_reads
use Rattle.place.proofs.line_at.Kinds as line_at_kinds
use Rattle.place.proofs.line_at.Reads as line_at_reads
use Rattle.place.proofs.tally_at.Kinds as tally_at_kinds
use Rattle.place.proofs.tally_at.Reads as tally_at_reads
use Rattle.place.proofs.close_at.Kinds as close_at_kinds
use Rattle.place.proofs.close_at.Reads as close_at_reads
use Rattle.place.proofs.open_at.Kinds as open_at_kinds
use Rattle.place.proofs.open_at.Reads as open_at_reads

pub section_at_one : OneAnswer 1 section_at_kinds.ps section_at_kinds.r section_at_reads.Post
section_at_one κs a x y s t p q = p.answers ∙ sym q.answers

pub section_at_end : OneEnd 1 section_at_kinds.ps section_at_kinds.r (List ℕ) (λ κs s. s.0.now) section_at_reads.Post
section_at_end κs a x y s t p q = p.holds ∙ sym q.holds

pub path_at_one : OneAnswer 1 path_at_kinds.ps path_at_kinds.r path_at_reads.Post
path_at_one κs a x y s t p q = p.answers ∙ sym q.answers

pub path_at_end : OneEnd 1 path_at_kinds.ps path_at_kinds.r (List ℕ) (λ κs s. s.0.now) path_at_reads.Post
path_at_end κs a x y s t p q = p.holds ∙ sym q.holds

-- two answers with the same line and the same multiframe are the same
both : (x y : LineFrame) → x.line ≡ y.line → x.multi ≡ y.multi → x ≡ y
both x y l m =
    let h : ◌≡◌ {A = LineFrame} (record { line = x.line; multi = x.multi }) (record { line = y.line; multi = y.multi }) = rw (l, m) in
    h

pub line_at_one : OneAnswer 1 line_at_kinds.ps line_at_kinds.r line_at_reads.Post
line_at_one κs a x y s t p q = both x y (p.line ∙ sym q.line) (p.multi ∙ sym q.multi)

pub line_at_end : OneEnd 1 line_at_kinds.ps line_at_kinds.r (List ℕ) (λ κs s. s.0.now) line_at_reads.Post
line_at_end κs a x y s t p q = p.holds ∙ sym q.holds

pub tally_at_end : OneEnd 1 tally_at_kinds.ps tally_at_kinds.r (List ℕ) (λ κs s. s.0.now) tally_at_reads.Post
tally_at_end κs a x y s t p q = p ∙ sym q

pub close_at_one : OneAnswer 1 close_at_kinds.ps close_at_kinds.r close_at_reads.Post
close_at_one κs a x y s t p q = p.answers ∙ sym q.answers

pub close_at_end : OneEnd 1 close_at_kinds.ps close_at_kinds.r (List ℕ) (λ κs s. s.0.now) close_at_reads.Post
close_at_end κs a x y s t p q = p.holds ∙ sym q.holds

pub open_at_end : OneEnd 1 open_at_kinds.ps open_at_kinds.r (List ℕ) (λ κs s. s.0.now) open_at_reads.Post
open_at_end κs a x y s t p q = p ∙ sym q
