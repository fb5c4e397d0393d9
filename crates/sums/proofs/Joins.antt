-- Two summaries are joined in their bytes as by value. Assumes nothing.
use mathlib.Core.Path.{◌≡◌, refl, sym, ap}
use mathlib.Core.Bool.{Bool, true, false}
use mathlib.Core.List.{List}
use Prim.Native.Nat.{ℕ}
use lib.Dec.{eqb}
use lib.ListN.{length}
use borrow.Author.Tests.{eq-eqb, eqb-true}
use Rattle.codec.specs.Over.{poured}
use Rattle.summary.specs.Summary.{join_refusal, join_of, added_of}
use Rattle.summary.specs.Laws.{Sound, joined}
use Rattle.summary.specs.declared.Summary.{Summary}
use Rattle.summary.specs.Summary.{Joined}
use Rattle.pack.specs.Pack.{summary_bytes, joined_refusal, joined_out, JoinCall, SameSummary}
use Rattle.pack.proofs.Trip.{every_same}

module _ (a b s : Summary) (e : join_of a b ≡ joined s) where
  -- what is joined was not refused, and is the sum
  not_refused : join_refusal a b ≡ 0
  unfolding join_of
  not_refused = by (eqb (join_refusal a b) 0) refl
    where
      by : (t : Bool) → eqb (join_refusal a b) 0 ≡ t → join_refusal a b ≡ 0
      by true t = eqb-true (join_refusal a b) 0 t
      by false t = ap (λ (j : Joined). j.refusal) (rw t at e)

  sum_is : added_of a b ≡ s
  unfolding join_of
  sum_is = ap (λ (j : Joined). j.summary) (rw not_refused at e)

  module _ (f : SameSummary a) (g : SameSummary b) (out : List ℕ) where
    refusal : joined_refusal (summary_bytes a) (summary_bytes b) ≡ 0
    unfolding joined_refusal join_refusal
    refusal = rw (eq-eqb (length (summary_bytes a)) 184 f.long, eq-eqb (length (summary_bytes b)) 184 g.long, f.back, g.back) not_refused

    pub call : JoinCall (summary_bytes a) (summary_bytes b) out 0 (poured out (summary_bytes s))
    unfolding joined_out
    call = record { answers = sym refusal; fills = rw (refusal, f.back, g.back, sum_is) }

pub bytes_join : (a b s : Summary) → join_of a b ≡ joined s → Sound a → Sound b → (out : List ℕ) → JoinCall (summary_bytes a) (summary_bytes b) out 0 (poured out (summary_bytes s))
bytes_join a b s e x y out = call a b s e (every_same a x) (every_same b y) out
