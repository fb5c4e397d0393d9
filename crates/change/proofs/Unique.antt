-- No second answer, and no second content of the lent buffer or bytes and so no second length, meets the contract of a public function. Assumes nothing.
use Rattle.std.proofs.Common.{List, ℕ, Fits, w64, length, ap, sym, ◌∙◌}
use Rattle.answer.specs.Answer.{OneAnswer, OneEnd}
use Rattle.change.proofs.shown_of.Kinds as shown_kinds
use Rattle.change.proofs.shown_of.Reads as shown_reads
use Rattle.change.proofs.change_line.Kinds as change_kinds
use Rattle.change.proofs.change_line.Reads as change_reads
use Rattle.change.proofs.change_line_at.Kinds as change_at_kinds
use Rattle.change.proofs.change_line_at.Reads as change_at_reads

pub shown_one : OneAnswer 1 shown_kinds.ps shown_kinds.r shown_reads.Post
shown_one κs a x y s t p q = p ∙ sym q

pub change_end : (CAP : ℕ) (h : Fits w64 CAP) → OneEnd 4 (change_kinds.ps CAP h) (change_kinds.r CAP h) (List ℕ) (λ κs s. s.1.1.1.1.1.0.now.items) (change_reads.Post CAP h)
change_end CAP h κs a x y s t p q =
    let c = change_reads.post-apart CAP h κs a x s p in
    let d = change_reads.post-apart CAP h κs a y t q in
    c.put ∙ sym d.put

pub change_one : (CAP : ℕ) (h : Fits w64 CAP) → OneEnd 4 (change_kinds.ps CAP h) (change_kinds.r CAP h) ℕ (λ κs s. length s.1.1.1.1.1.0.now.items) (change_reads.Post CAP h)
change_one CAP h κs a x y s t p q = ap (λ (l : List ℕ). length l) (change_end CAP h κs a x y s t p q)

pub change_at_one : OneAnswer 1 change_at_kinds.ps change_at_kinds.r change_at_reads.Post
change_at_one κs a x y s t p q = p.0 ∙ sym q.0

pub change_at_end : OneEnd 1 change_at_kinds.ps change_at_kinds.r (List ℕ) (λ κs s. s.1.1.1.1.1.0.now) change_at_reads.Post
change_at_end κs a x y s t p q = p.2 ∙ sym q.2
