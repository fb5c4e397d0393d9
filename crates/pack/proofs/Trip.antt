-- A summary is read back from its bytes. Assumes nothing.
use Prim.Native.Nat.{ℕ, ◌≤◌, ◌<◌}
use mathlib.Core.Path.{sym, ap, ◌∙◌}
use mathlib.Core.List.{List, [], append-nil}
use native.Mathlib.Omega.{arith}
use lib.ListN.{get_or}
use Rattle.words.specs.Words.{flat8, numbers_of as numbers_in}
use Rattle.words.proofs.Words.{Wide, length_flat8, numbers_back}
use Rattle.summary.specs.Summary.{Low, numbers_of, summary_by}
use Rattle.summary.specs.Laws.{Sound}
use Rattle.summary.specs.declared.Summary.{Summary}
use Rattle.summary.proofs.Bounds.{valid_low}
use Rattle.summary.proofs.Laws.{ten_back}
use Rattle.pack.specs.Pack.{summary_bytes, summary_from, SameSummary, EverySame}

module _ (s : Summary) (x : Sound s) where
  low : Low s
  low = valid_low s x.valid

  -- no number of it is above 3,200,000 times 86,400
  small : {n : ℕ} → n ≤ 276480000000 → n < 18446744073709551616
  small h = omega (arith, h)

  head : (i : ℕ) → i < 10 → get_or s.heads i 0 < 18446744073709551616
  head i h = small (low.heads i h)

  wide : Wide (numbers_of s)
  wide =
      (omega (arith, low.last), (omega (arith, low.length), (small low.frames, (head 0 (omega arith), (head 1 (omega arith), (head 2 (omega arith), (head 3 (omega arith), (head 4 (omega arith), (head 5 (omega arith), (head 6 (omega arith), (head 7 (omega arith), (head 8 (omega arith), (head 9 (omega arith), (small low.section.near, (small low.section.far, (small low.section.neards, (small low.section.fards, (small low.section.sum, (small low.path.near, (small low.path.far, (small low.path.neards, (small low.path.fards, (small low.path.sum, tt)))))))))))))))))))))))

  pub same_summary : SameSummary s
  unfolding summary_bytes summary_from
  same_summary = record {
    long = length_flat8 (numbers_of s);
    back = ap (λ (b : List ℕ). summary_by (numbers_in 23 b)) (sym (append-nil (flat8 (numbers_of s)))) ∙ ap summary_by (numbers_back (numbers_of s) [] wide) ∙ rw (ten_back s.heads x.ten);
  }

pub every_same : EverySame
every_same = same_summary
