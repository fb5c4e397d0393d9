-- No second answer, and no second content of the lent bins, buffer or bytes and so no second length, meets the contract of a public function. Assumes nothing.
use Rattle.std.proofs.Common.{List, ℕ, Fits, w64, length, ap, sym, ◌∙◌}
use Rattle.answer.specs.Answer.{OneAnswer, OneEnd}
use Rattle.bins.specs.declared.Bins.{Bins}
use Rattle.lines.proofs.shown_in.Kinds as shown_kinds
use Rattle.lines.proofs.shown_in.Reads as shown_reads
use Rattle.lines.proofs.open_after.Kinds as open_kinds
use Rattle.lines.proofs.open_after.Reads as open_reads
use Rattle.lines.proofs.told_line.Kinds as told_kinds
use Rattle.lines.proofs.told_line.Reads as told_reads
use Rattle.lines.proofs.reported_lines.Kinds as reported_kinds
use Rattle.lines.proofs.reported_lines.Reads as reported_reads
use Rattle.lines.proofs.last_lines.Kinds as last_kinds
use Rattle.lines.proofs.last_lines.Reads as last_reads
use Rattle.lines.proofs.told_line_at.Kinds as told_at_kinds
use Rattle.lines.proofs.told_line_at.Reads as told_at_reads
use Rattle.lines.proofs.reported_lines_at.Kinds as reported_at_kinds
use Rattle.lines.proofs.reported_lines_at.Reads as reported_at_reads
use Rattle.lines.proofs.last_lines_at.Kinds as last_at_kinds
use Rattle.lines.proofs.last_lines_at.Reads as last_at_reads

pub shown_one : OneAnswer 1 shown_kinds.ps shown_kinds.r shown_reads.Post
shown_one κs a x y s t p q = p ∙ sym q

pub open_one : OneEnd 2 open_kinds.ps open_kinds.r Bins (λ κs s. s.0.now) open_reads.Post
open_one κs a x y s t p q = p ∙ sym q

pub told_end : (CAP : ℕ) (h : Fits w64 CAP) → OneEnd 4 (told_kinds.ps CAP h) (told_kinds.r CAP h) (List ℕ) (λ κs s. s.1.1.1.0.now.items) (told_reads.Post CAP h)
told_end CAP h κs a x y s t p q =
    let c = told_reads.post-apart CAP h κs a x s p in
    let d = told_reads.post-apart CAP h κs a y t q in
    c.put ∙ sym d.put

pub told_one : (CAP : ℕ) (h : Fits w64 CAP) → OneEnd 4 (told_kinds.ps CAP h) (told_kinds.r CAP h) ℕ (λ κs s. length s.1.1.1.0.now.items) (told_reads.Post CAP h)
told_one CAP h κs a x y s t p q = ap (λ (l : List ℕ). length l) (told_end CAP h κs a x y s t p q)

pub reported_end : (CAP : ℕ) (h : Fits w64 CAP) → OneEnd 4 (reported_kinds.ps CAP h) (reported_kinds.r CAP h) (List ℕ) (λ κs s. s.1.1.1.0.now.items) (reported_reads.Post CAP h)
reported_end CAP h κs a x y s t p q =
    let c = reported_reads.post-apart CAP h κs a x s p in
    let d = reported_reads.post-apart CAP h κs a y t q in
    c.put ∙ sym d.put

pub reported_one : (CAP : ℕ) (h : Fits w64 CAP) → OneEnd 4 (reported_kinds.ps CAP h) (reported_kinds.r CAP h) ℕ (λ κs s. length s.1.1.1.0.now.items) (reported_reads.Post CAP h)
reported_one CAP h κs a x y s t p q = ap (λ (l : List ℕ). length l) (reported_end CAP h κs a x y s t p q)

pub last_end : (CAP : ℕ) (h : Fits w64 CAP) → OneEnd 5 (last_kinds.ps CAP h) (last_kinds.r CAP h) (List ℕ) (λ κs s. s.1.1.1.1.1.0.now.items) (last_reads.Post CAP h)
last_end CAP h κs a x y s t p q =
    let c = last_reads.post-apart CAP h κs a x s p in
    let d = last_reads.post-apart CAP h κs a y t q in
    c.put ∙ sym d.put

pub last_one : (CAP : ℕ) (h : Fits w64 CAP) → OneEnd 5 (last_kinds.ps CAP h) (last_kinds.r CAP h) ℕ (λ κs s. length s.1.1.1.1.1.0.now.items) (last_reads.Post CAP h)
last_one CAP h κs a x y s t p q = ap (λ (l : List ℕ). length l) (last_end CAP h κs a x y s t p q)

pub told_at_one : OneAnswer 1 told_at_kinds.ps told_at_kinds.r told_at_reads.Post
told_at_one κs a x y s t p q = p.0 ∙ sym q.0

pub told_at_end : OneEnd 1 told_at_kinds.ps told_at_kinds.r (List ℕ) (λ κs s. s.1.1.1.0.now) told_at_reads.Post
told_at_end κs a x y s t p q = p.2 ∙ sym q.2

pub reported_at_one : OneAnswer 1 reported_at_kinds.ps reported_at_kinds.r reported_at_reads.Post
reported_at_one κs a x y s t p q = p.0 ∙ sym q.0

pub reported_at_end : OneEnd 1 reported_at_kinds.ps reported_at_kinds.r (List ℕ) (λ κs s. s.1.1.1.0.now) reported_at_reads.Post
reported_at_end κs a x y s t p q = p.2 ∙ sym q.2

pub last_at_one : OneAnswer 1 last_at_kinds.ps last_at_kinds.r last_at_reads.Post
last_at_one κs a x y s t p q = p.0 ∙ sym q.0

pub last_at_end : OneEnd 1 last_at_kinds.ps last_at_kinds.r (List ℕ) (λ κs s. s.1.1.1.1.1.1.1.0.now) last_at_reads.Post
last_at_end κs a x y s t p q = p.1 ∙ sym q.1
