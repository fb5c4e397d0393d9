-- No second content of the lent buffer, and so no second length, meets the contract of a public function, whatever its capacity; of lent bytes, no second answer and no second
-- content. Assumes nothing.
use Rattle.std.proofs.Common.{List, ℕ, Fits, w64, length, ap, sym, ◌∙◌}
use Rattle.answer.specs.Answer.{OneAnswer, OneEnd}
use Rattle.conditions.proofs.put_conditions.Kinds as kinds
use Rattle.conditions.proofs.put_conditions.Reads as reads
use Rattle.conditions.proofs.put_level.Kinds as level_kinds
use Rattle.conditions.proofs.put_level.Reads as level_reads
use Rattle.conditions.proofs.put_conditions_at.Kinds as at_kinds
use Rattle.conditions.proofs.put_conditions_at.Reads as at_reads
use Rattle.conditions.proofs.put_level_at.Kinds as level_at_kinds
use Rattle.conditions.proofs.put_level_at.Reads as level_at_reads

pub conditions_end : (CAP : ℕ) (h : Fits w64 CAP) → OneEnd 4 (kinds.ps CAP h) (kinds.r CAP h) (List ℕ) (λ κs s. s.1.1.0.now.items) (reads.Post CAP h)
conditions_end CAP h κs a x y s t p q =
    let c = reads.post-apart CAP h κs a x s p in
    let d = reads.post-apart CAP h κs a y t q in
    c.put ∙ sym d.put

pub conditions_one : (CAP : ℕ) (h : Fits w64 CAP) → OneEnd 4 (kinds.ps CAP h) (kinds.r CAP h) ℕ (λ κs s. length s.1.1.0.now.items) (reads.Post CAP h)
conditions_one CAP h κs a x y s t p q = ap (λ (l : List ℕ). length l) (conditions_end CAP h κs a x y s t p q)

pub level_end : (CAP : ℕ) (h : Fits w64 CAP) → OneEnd 4 (level_kinds.ps CAP h) (level_kinds.r CAP h) (List ℕ) (λ κs s. s.1.1.1.0.now.items) (level_reads.Post CAP h)
level_end CAP h κs a x y s t p q =
    let c = level_reads.post-apart CAP h κs a x s p in
    let d = level_reads.post-apart CAP h κs a y t q in
    c.put ∙ sym d.put

pub level_one : (CAP : ℕ) (h : Fits w64 CAP) → OneEnd 4 (level_kinds.ps CAP h) (level_kinds.r CAP h) ℕ (λ κs s. length s.1.1.1.0.now.items) (level_reads.Post CAP h)
level_one CAP h κs a x y s t p q = ap (λ (l : List ℕ). length l) (level_end CAP h κs a x y s t p q)

pub conditions_at_one : OneAnswer 1 at_kinds.ps at_kinds.r at_reads.Post
conditions_at_one κs a x y s t p q = p.0 ∙ sym q.0

pub conditions_at_end : OneEnd 1 at_kinds.ps at_kinds.r (List ℕ) (λ κs s. s.1.1.0.now) at_reads.Post
conditions_at_end κs a x y s t p q = p.1 ∙ sym q.1

pub level_at_one : OneAnswer 1 level_at_kinds.ps level_at_kinds.r level_at_reads.Post
level_at_one κs a x y s t p q = p.0 ∙ sym q.0

pub level_at_end : OneEnd 1 level_at_kinds.ps level_at_kinds.r (List ℕ) (λ κs s. s.1.1.1.0.now) level_at_reads.Post
level_at_end κs a x y s t p q = p.1 ∙ sym q.1
