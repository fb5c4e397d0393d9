-- No second answer, and no second content of the lent bins, buffer or bytes and so no second length, meets the contract of a public function. Assumes nothing.
use Rattle.std.proofs.Common.{List, ℕ, Fits, w64, length, ap, sym, ◌∙◌}
use Rattle.answer.specs.Answer.{OneAnswer, OneEnd}
use Rattle.bins.specs.declared.Bins.{Bins}
use Rattle.bins.proofs.no_bins.Kinds as none_kinds
use Rattle.bins.proofs.no_bins.Reads as none_reads
use Rattle.bins.proofs.Bins.add.Kinds as with_kinds
use Rattle.bins.proofs.Bins.add.Reads as with_reads
use Rattle.bins.proofs.Bins.close.Kinds as opened_kinds
use Rattle.bins.proofs.Bins.close.Reads as opened_reads
use Rattle.bins.proofs.Bins.closed_lines.Kinds as closed_kinds
use Rattle.bins.proofs.Bins.closed_lines.Reads as closed_reads
use Rattle.bins.proofs.Bins.rest_lines.Kinds as rest_kinds
use Rattle.bins.proofs.Bins.rest_lines.Reads as rest_reads
use Rattle.bins.proofs.closed_lines_at.Kinds as closed_at_kinds
use Rattle.bins.proofs.closed_lines_at.Reads as closed_at_reads
use Rattle.bins.proofs.rest_lines_at.Kinds as rest_at_kinds
use Rattle.bins.proofs.rest_lines_at.Reads as rest_at_reads

pub none_one : OneAnswer 0 none_kinds.ps none_kinds.r none_reads.Post
none_one κs a x y s t p q = p ∙ sym q

pub with_one : OneEnd 2 with_kinds.ps with_kinds.r Bins (λ κs s. s.0.now) with_reads.Post
with_one κs a x y s t p q = p ∙ sym q

pub opened_one : OneEnd 1 opened_kinds.ps opened_kinds.r Bins (λ κs s. s.0.now) opened_reads.Post
opened_one κs a x y s t p q = p ∙ sym q

pub closed_end : (CAP : ℕ) (h : Fits w64 CAP) → OneEnd 3 (closed_kinds.ps CAP h) (closed_kinds.r CAP h) (List ℕ) (λ κs s. s.1.1.0.now.items) (closed_reads.Post CAP h)
closed_end CAP h κs a x y s t p q =
    let c = closed_reads.post-apart CAP h κs a x s p in
    let d = closed_reads.post-apart CAP h κs a y t q in
    c.put ∙ sym d.put

pub closed_one : (CAP : ℕ) (h : Fits w64 CAP) → OneEnd 3 (closed_kinds.ps CAP h) (closed_kinds.r CAP h) ℕ (λ κs s. length s.1.1.0.now.items) (closed_reads.Post CAP h)
closed_one CAP h κs a x y s t p q = ap (λ (l : List ℕ). length l) (closed_end CAP h κs a x y s t p q)

pub rest_end : (CAP : ℕ) (h : Fits w64 CAP) → OneEnd 3 (rest_kinds.ps CAP h) (rest_kinds.r CAP h) (List ℕ) (λ κs s. s.1.0.now.items) (rest_reads.Post CAP h)
rest_end CAP h κs a x y s t p q =
    let c = rest_reads.post-apart CAP h κs a x s p in
    let d = rest_reads.post-apart CAP h κs a y t q in
    c.put ∙ sym d.put

pub rest_one : (CAP : ℕ) (h : Fits w64 CAP) → OneEnd 3 (rest_kinds.ps CAP h) (rest_kinds.r CAP h) ℕ (λ κs s. length s.1.0.now.items) (rest_reads.Post CAP h)
rest_one CAP h κs a x y s t p q = ap (λ (l : List ℕ). length l) (rest_end CAP h κs a x y s t p q)

pub closed_at_one : OneAnswer 1 closed_at_kinds.ps closed_at_kinds.r closed_at_reads.Post
closed_at_one κs a x y s t p q = p.0 ∙ sym q.0

pub closed_at_end : OneEnd 1 closed_at_kinds.ps closed_at_kinds.r (List ℕ) (λ κs s. s.1.1.0.now) closed_at_reads.Post
closed_at_end κs a x y s t p q = p.2 ∙ sym q.2

pub rest_at_one : OneAnswer 1 rest_at_kinds.ps rest_at_kinds.r rest_at_reads.Post
rest_at_one κs a x y s t p q = p.0 ∙ sym q.0

pub rest_at_end : OneEnd 1 rest_at_kinds.ps rest_at_kinds.r (List ℕ) (λ κs s. s.1.0.now) rest_at_reads.Post
rest_at_end κs a x y s t p q = p.2 ∙ sym q.2
