-- No second answer meets the contract of a public function, and none leaves another state behind. Assumes nothing.
use Rattle.std.proofs.Common.{◌≡◌, sym, ap, ◌∙◌}
use Rattle.answer.specs.Answer.{OneAnswer, OneEnd}
use Rattle.trace.specs.declared.State.{State}
use Rattle.trace.specs.declared.Run.{Run}
use Rattle.trace.specs.Scan as scan
use Rattle.trace.proofs.start.Kinds as start_kinds
use Rattle.trace.proofs.start.Reads as start_reads
use Rattle.trace.proofs.scan.Kinds as scan_kinds
use Rattle.trace.proofs.scan.Reads as scan_reads

same_run : (x y : Run) (s t : State) → scan.ran x s ≡ scan.ran y t → x ≡ y
same_run x y s t e = λ i. record {
  at = ap (λ (r : scan.Run). r.at) e i;
  frames = ap (λ (r : scan.Run). r.frames) e i;
  stop = ap (λ (r : scan.Run). r.stop) e i;
}

pub start_one : OneAnswer 0 start_kinds.ps start_kinds.r start_reads.Post
start_one κs a x y s t p q = p ∙ sym q

pub scan_one : OneAnswer 2 scan_kinds.ps scan_kinds.r scan_reads.Post
scan_one κs a x y s t p q = same_run x y s.1.0.now t.1.0.now (p ∙ sym q)

pub scan_end : OneEnd 2 scan_kinds.ps scan_kinds.r State (λ κs s. s.1.0.now) scan_reads.Post
scan_end κs a x y s t p q = ap (λ (r : scan.Run). r.state) (p ∙ sym q)
