-- The ways out of the two calls. Assumes nothing.
use mathlib.Core.Path.{◌≡◌, refl, sym, ap, ◌∙◌}
use mathlib.Core.Bool.{Bool, true, false, ◌&&◌, true≢false}
use mathlib.Core.List.{List}
use Prim.Native.Nat.{ℕ, ◌≤◌, ◌<◌}
use native.Mathlib.Omega.{arith}
use lib.Dec.{eqb}
use lib.ListN.{length}
use borrow.Author.Tests.{ne_eqb, eqb-true, le-leb, lt-leb}
use Rattle.answer.specs.declared.Refusal.{Refusal}
use Rattle.answer.specs.Refusal.{number_of}
use Rattle.answer.proofs.Cond.{by_cond, and_left, and_right}
use Rattle.answer.proofs.Numbers.{number_above}
use Rattle.codec.specs.Over.{poured}
use Rattle.words.specs.Words.{words_in, numbers_in}
use Rattle.words.proofs.Words.{words_room, numbers_room}
use Rattle.summary.specs.Summary.{valid_of, join_refusal, Joined, join_of, added_of, second_of, summary_by}
use Rattle.summary.specs.declared.Summary.{Summary}
use Rattle.pack.specs.Pack.{summary_bytes, summary_from, recorded_of, summary_refusal, summary_out, SummaryCall, joined_refusal, joined_out, JoinCall}

-- otn_summary
module _ (b out : List ℕ) where
  short : length b < 88 → SummaryCall b out 26 out
  unfolding summary_refusal summary_out
  short h = record { answers = rw (lt-leb 88 (length b) h); fills = rw (lt-leb 88 (length b) h) }

  module _ (f : List ℕ) (s : Summary) (good : Bool) (h : 88 ≤ length b) (e : f ≡ words_in 22 0 b) (g : s ≡ second_of f) (v : good ≡ valid_of s) where
    here : s ≡ recorded_of b
    unfolding recorded_of
    here = g ∙ ap second_of (e ∙ words_room 22 0 b (omega arith))

    test : valid_of (recorded_of b) ≡ good
    test = sym (v ∙ ap valid_of here)

    pub summarized : (filled : List ℕ) → good ≡ true → filled ≡ poured out (summary_bytes s) → SummaryCall b out 0 filled
    unfolding summary_refusal summary_out
    summarized filled t p = record {
      answers = rw (le-leb 88 (length b) h, test, t);
      fills = rw (le-leb 88 (length b) h, test, t) (p ∙ ap (λ (x : Summary). poured out (summary_bytes x)) here);
    }

    pub no_second : good ≡ false → SummaryCall b out 26 out
    unfolding summary_refusal summary_out
    no_second t = record { answers = rw (le-leb 88 (length b) h, test, t); fills = rw (le-leb 88 (length b) h, test, t) }

pub too_short : (b out : List ℕ) → length b < 88 → SummaryCall b out 26 out
too_short = short

-- otn_join
module _ (a b out : List ℕ) where
  by_lengths : (x y : Bool) → eqb (length a) 184 ≡ x → eqb (length b) 184 ≡ y → (x && y) ≡ false → joined_refusal a b ≡ 26
  unfolding joined_refusal
  by_lengths false y p q e = rw p
  by_lengths true false p q e = rw (p, q)
  by_lengths true true p q e = absurd (true≢false e)

  pub wrong_length : (eqb (length a) 184 && eqb (length b) 184) ≡ false → JoinCall a b out 26 out
  unfolding joined_out
  wrong_length e =
      let r : joined_refusal a b ≡ 26 = by_lengths (eqb (length a) 184) (eqb (length b) 184) refl refl e in
      record { answers = sym r; fills = rw r }

  module _ (x y : List ℕ) (s t : Summary) (e : (eqb (length a) 184 && eqb (length b) 184) ≡ true) (p : x ≡ numbers_in 23 a) (q : y ≡ numbers_in 23 b)
      (u : s ≡ summary_by x) (v : t ≡ summary_by y) where
    left : eqb (length a) 184 ≡ true
    left = and_left (eqb (length a) 184) (eqb (length b) 184) e

    right : eqb (length b) 184 ≡ true
    right = and_right (eqb (length a) 184) (eqb (length b) 184) e

    from : (l n : List ℕ) (z : Summary) → eqb (length l) 184 ≡ true → n ≡ numbers_in 23 l → z ≡ summary_by n → z ≡ summary_from l
    unfolding summary_from
    from l n z k m o = let h : length l ≡ 184 = eqb-true (length l) 184 k in o ∙ ap summary_by (m ∙ numbers_room 23 l (omega arith))

    both : join_of s t ≡ join_of (summary_from a) (summary_from b)
    both = rw (from a x s left p u, from b y t right q v) refl

    refusal : joined_refusal a b ≡ join_refusal (summary_from a) (summary_from b)
    unfolding joined_refusal join_refusal
    refusal = rw (left, right)

    number : (join_of s t).refusal ≡ joined_refusal a b
    unfolding join_of
    number =
        let n : ℕ = join_refusal (summary_from a) (summary_from b) in
        rw both (by_cond (λ (z : Joined). z.refusal ≡ n) (eqb n 0) (λ k. sym (eqb-true n 0 k)) (λ _. refl)) ∙ sym refusal

    sum : (join_of s t).refusal ≡ 0 → (join_of s t).summary ≡ added_of (summary_from a) (summary_from b)
    unfolding join_of
    sum z = rw (both, sym refusal ∙ sym number ∙ z)

    pub joined : (filled : List ℕ) (k : Summary) → 0 ≡ (join_of s t).refusal → k ≡ (join_of s t).summary → filled ≡ poured out (summary_bytes k)
        → JoinCall a b out 0 filled
    unfolding joined_out
    joined filled k z m f =
        let r : joined_refusal a b ≡ 0 = sym number ∙ sym z in
        record { answers = sym r; fills = rw r (f ∙ ap (λ (c : Summary). poured out (summary_bytes c)) (m ∙ sum (sym z))) }

    pub refused : (d : Refusal) (r : ℕ) → number_of d ≡ (join_of s t).refusal → r ≡ number_of d → JoinCall a b out r out
    unfolding joined_out
    refused d r z k =
        let h : 0 < number_of d = number_above d in
        let n : joined_refusal a b ≡ 0 → ⊥ = λ m. omega (arith, h, z ∙ number ∙ m) in
        record { answers = k ∙ z ∙ number; fills = rw (ne_eqb (joined_refusal a b) 0 n) }
