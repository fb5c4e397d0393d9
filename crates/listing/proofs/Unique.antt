-- No second content of the lent buffer, and so no second length, meets the contract of a public function, whatever its capacity; of lent bytes, no second answer and no second
-- content. Assumes nothing.
use Rattle.std.proofs.Common.{List, ℕ, Fits, w64, length, ap, sym, ◌∙◌}
use Rattle.answer.specs.Answer.{OneAnswer, OneEnd}
use Rattle.listing.proofs.put_text.Kinds as text_kinds
use Rattle.listing.proofs.put_text.Reads as text_reads
use Rattle.listing.proofs.put_number.Kinds as number_kinds
use Rattle.listing.proofs.put_number.Reads as number_reads
use Rattle.listing.proofs.put_start.Kinds as start_kinds
use Rattle.listing.proofs.put_start.Reads as start_reads
use Rattle.listing.proofs.second_line.Kinds as second_kinds
use Rattle.listing.proofs.second_line.Reads as second_reads
use Rattle.listing.proofs.refusal_line.Kinds as refusal_kinds
use Rattle.listing.proofs.refusal_line.Reads as refusal_reads
use Rattle.listing.proofs.end_line.Kinds as end_kinds
use Rattle.listing.proofs.end_line.Reads as end_reads
use Rattle.listing.proofs.bin_line.Kinds as bin_kinds
use Rattle.listing.proofs.bin_line.Reads as bin_reads
use Rattle.listing.proofs.put_text_at.Kinds as text_at_kinds
use Rattle.listing.proofs.put_text_at.Reads as text_at_reads
use Rattle.listing.proofs.put_line_at.Kinds as line_at_kinds
use Rattle.listing.proofs.put_line_at.Reads as line_at_reads
use Rattle.listing.proofs.put_number_at.Kinds as number_at_kinds
use Rattle.listing.proofs.put_number_at.Reads as number_at_reads
use Rattle.listing.proofs.put_start_at.Kinds as start_at_kinds
use Rattle.listing.proofs.put_start_at.Reads as start_at_reads
use Rattle.listing.proofs.second_line_at.Kinds as second_at_kinds
use Rattle.listing.proofs.second_line_at.Reads as second_at_reads
use Rattle.listing.proofs.refusal_line_at.Kinds as refusal_at_kinds
use Rattle.listing.proofs.refusal_line_at.Reads as refusal_at_reads
use Rattle.listing.proofs.end_line_at.Kinds as end_at_kinds
use Rattle.listing.proofs.end_line_at.Reads as end_at_reads
use Rattle.listing.proofs.bin_line_at.Kinds as bin_at_kinds
use Rattle.listing.proofs.bin_line_at.Reads as bin_at_reads

pub text_end : (CAP : ℕ) (h : Fits w64 CAP) → OneEnd 3 (text_kinds.ps CAP h) (text_kinds.r CAP h) (List ℕ) (λ κs s. s.1.0.now.items) (text_reads.Post CAP h)
text_end CAP h κs a x y s t p q =
    let c = text_reads.post-apart CAP h κs a x s p in
    let d = text_reads.post-apart CAP h κs a y t q in
    c.put ∙ sym d.put

pub text_one : (CAP : ℕ) (h : Fits w64 CAP) → OneEnd 3 (text_kinds.ps CAP h) (text_kinds.r CAP h) ℕ (λ κs s. length s.1.0.now.items) (text_reads.Post CAP h)
text_one CAP h κs a x y s t p q = ap (λ (l : List ℕ). length l) (text_end CAP h κs a x y s t p q)

pub number_end : (CAP : ℕ) (h : Fits w64 CAP) → OneEnd 2 (number_kinds.ps CAP h) (number_kinds.r CAP h) (List ℕ) (λ κs s. s.1.0.now.items) (number_reads.Post CAP h)
number_end CAP h κs a x y s t p q =
    let c = number_reads.post-apart CAP h κs a x s p in
    let d = number_reads.post-apart CAP h κs a y t q in
    c.put ∙ sym d.put

pub number_one : (CAP : ℕ) (h : Fits w64 CAP) → OneEnd 2 (number_kinds.ps CAP h) (number_kinds.r CAP h) ℕ (λ κs s. length s.1.0.now.items) (number_reads.Post CAP h)
number_one CAP h κs a x y s t p q = ap (λ (l : List ℕ). length l) (number_end CAP h κs a x y s t p q)

pub start_end : (CAP : ℕ) (h : Fits w64 CAP) → OneEnd 2 (start_kinds.ps CAP h) (start_kinds.r CAP h) (List ℕ) (λ κs s. s.1.1.0.now.items) (start_reads.Post CAP h)
start_end CAP h κs a x y s t p q =
    let c = start_reads.post-apart CAP h κs a x s p in
    let d = start_reads.post-apart CAP h κs a y t q in
    c.put ∙ sym d.put

pub start_one : (CAP : ℕ) (h : Fits w64 CAP) → OneEnd 2 (start_kinds.ps CAP h) (start_kinds.r CAP h) ℕ (λ κs s. length s.1.1.0.now.items) (start_reads.Post CAP h)
start_one CAP h κs a x y s t p q = ap (λ (l : List ℕ). length l) (start_end CAP h κs a x y s t p q)

pub second_end : (CAP : ℕ) (h : Fits w64 CAP) → OneEnd 3 (second_kinds.ps CAP h) (second_kinds.r CAP h) (List ℕ) (λ κs s. s.1.0.now.items) (second_reads.Post CAP h)
second_end CAP h κs a x y s t p q =
    let c = second_reads.post-apart CAP h κs a x s p in
    let d = second_reads.post-apart CAP h κs a y t q in
    c.put ∙ sym d.put

pub second_one : (CAP : ℕ) (h : Fits w64 CAP) → OneEnd 3 (second_kinds.ps CAP h) (second_kinds.r CAP h) ℕ (λ κs s. length s.1.0.now.items) (second_reads.Post CAP h)
second_one CAP h κs a x y s t p q = ap (λ (l : List ℕ). length l) (second_end CAP h κs a x y s t p q)

pub refusal_end : (CAP : ℕ) (h : Fits w64 CAP) → OneEnd 2 (refusal_kinds.ps CAP h) (refusal_kinds.r CAP h) (List ℕ) (λ κs s. s.1.1.0.now.items) (refusal_reads.Post CAP h)
refusal_end CAP h κs a x y s t p q =
    let c = refusal_reads.post-apart CAP h κs a x s p in
    let d = refusal_reads.post-apart CAP h κs a y t q in
    c.put ∙ sym d.put

pub refusal_one : (CAP : ℕ) (h : Fits w64 CAP) → OneEnd 2 (refusal_kinds.ps CAP h) (refusal_kinds.r CAP h) ℕ (λ κs s. length s.1.1.0.now.items) (refusal_reads.Post CAP h)
refusal_one CAP h κs a x y s t p q = ap (λ (l : List ℕ). length l) (refusal_end CAP h κs a x y s t p q)

pub end_end : (CAP : ℕ) (h : Fits w64 CAP) → OneEnd 2 (end_kinds.ps CAP h) (end_kinds.r CAP h) (List ℕ) (λ κs s. s.1.1.0.now.items) (end_reads.Post CAP h)
end_end CAP h κs a x y s t p q =
    let c = end_reads.post-apart CAP h κs a x s p in
    let d = end_reads.post-apart CAP h κs a y t q in
    c.put ∙ sym d.put

pub end_one : (CAP : ℕ) (h : Fits w64 CAP) → OneEnd 2 (end_kinds.ps CAP h) (end_kinds.r CAP h) ℕ (λ κs s. length s.1.1.0.now.items) (end_reads.Post CAP h)
end_one CAP h κs a x y s t p q = ap (λ (l : List ℕ). length l) (end_end CAP h κs a x y s t p q)

pub bin_end : (CAP : ℕ) (h : Fits w64 CAP) → OneEnd 2 (bin_kinds.ps CAP h) (bin_kinds.r CAP h) (List ℕ) (λ κs s. s.1.1.1.0.now.items) (bin_reads.Post CAP h)
bin_end CAP h κs a x y s t p q =
    let c = bin_reads.post-apart CAP h κs a x s p in
    let d = bin_reads.post-apart CAP h κs a y t q in
    c.put ∙ sym d.put

pub bin_one : (CAP : ℕ) (h : Fits w64 CAP) → OneEnd 2 (bin_kinds.ps CAP h) (bin_kinds.r CAP h) ℕ (λ κs s. length s.1.1.1.0.now.items) (bin_reads.Post CAP h)
bin_one CAP h κs a x y s t p q = ap (λ (l : List ℕ). length l) (bin_end CAP h κs a x y s t p q)

pub text_at_one : OneAnswer 2 text_at_kinds.ps text_at_kinds.r text_at_reads.Post
text_at_one κs a x y s t p q = p.0 ∙ sym q.0

pub text_at_end : OneEnd 2 text_at_kinds.ps text_at_kinds.r (List ℕ) (λ κs s. s.1.0.now) text_at_reads.Post
text_at_end κs a x y s t p q = p.1 ∙ sym q.1

pub number_at_one : OneAnswer 1 number_at_kinds.ps number_at_kinds.r number_at_reads.Post
number_at_one κs a x y s t p q = p.0 ∙ sym q.0

pub number_at_end : OneEnd 1 number_at_kinds.ps number_at_kinds.r (List ℕ) (λ κs s. s.1.0.now) number_at_reads.Post
number_at_end κs a x y s t p q = p.1 ∙ sym q.1

pub start_at_one : OneAnswer 1 start_at_kinds.ps start_at_kinds.r start_at_reads.Post
start_at_one κs a x y s t p q = p.0 ∙ sym q.0

pub start_at_end : OneEnd 1 start_at_kinds.ps start_at_kinds.r (List ℕ) (λ κs s. s.1.1.0.now) start_at_reads.Post
start_at_end κs a x y s t p q = p.1 ∙ sym q.1

pub second_at_one : OneAnswer 1 second_at_kinds.ps second_at_kinds.r second_at_reads.Post
second_at_one κs a x y s t p q = p.0 ∙ sym q.0

pub second_at_end : OneEnd 1 second_at_kinds.ps second_at_kinds.r (List ℕ) (λ κs s. s.1.1.0.now) second_at_reads.Post
second_at_end κs a x y s t p q = p.2 ∙ sym q.2

pub refusal_at_one : OneAnswer 1 refusal_at_kinds.ps refusal_at_kinds.r refusal_at_reads.Post
refusal_at_one κs a x y s t p q = p.0 ∙ sym q.0

pub refusal_at_end : OneEnd 1 refusal_at_kinds.ps refusal_at_kinds.r (List ℕ) (λ κs s. s.1.1.0.now) refusal_at_reads.Post
refusal_at_end κs a x y s t p q = p.1 ∙ sym q.1

pub end_at_one : OneAnswer 1 end_at_kinds.ps end_at_kinds.r end_at_reads.Post
end_at_one κs a x y s t p q = p.0 ∙ sym q.0

pub end_at_end : OneEnd 1 end_at_kinds.ps end_at_kinds.r (List ℕ) (λ κs s. s.1.1.0.now) end_at_reads.Post
end_at_end κs a x y s t p q = p.1 ∙ sym q.1

pub bin_at_one : OneAnswer 1 bin_at_kinds.ps bin_at_kinds.r bin_at_reads.Post
bin_at_one κs a x y s t p q = p.0 ∙ sym q.0

pub bin_at_end : OneEnd 1 bin_at_kinds.ps bin_at_kinds.r (List ℕ) (λ κs s. s.1.1.1.0.now) bin_at_reads.Post
bin_at_end κs a x y s t p q = p.2 ∙ sym q.2

pub line_at_one : (CAP : ℕ) (h : Fits w64 CAP) → OneAnswer 3 (line_at_kinds.ps CAP h) (line_at_kinds.r CAP h) (line_at_reads.Post CAP h)
line_at_one CAP h κs a x y s t p q = p.0 ∙ sym q.0

pub line_at_end : (CAP : ℕ) (h : Fits w64 CAP) → OneEnd 3 (line_at_kinds.ps CAP h) (line_at_kinds.r CAP h) (List ℕ) (λ κs s. s.1.0.now) (line_at_reads.Post CAP h)
line_at_end CAP h κs a x y s t p q = p.2 ∙ sym q.2
