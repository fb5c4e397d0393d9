-- The pending second's figures in their ranges, and as words there and back. Assumes nothing.
use Prim.Native.Nat.{ℕ, suc, ◌*◌, ◌/◌, ◌≤◌, ◌<◌, zero-le}
use mathlib.Core.Path.{◌≡◌, refl, ap, ◌∙◌}
use mathlib.Core.Bool.{true, false≢true, ◌&&◌}
use mathlib.Core.List.{List, [], ◌∷◌, append-nil}
use native.Mathlib.Omega.{arith}
use lib.Dec.{eqb, leb}
use lib.ListN.{length, get_or, replicate, get_or-replicate}
use borrow.Author.Tests.{le-leb, eq-eqb, eqb-true}
use Rattle.answer.proofs.Cond.{and_left, and_right}
use lib.Seq.{take_all}
use Rattle.words.specs.Words.{flat, words_of}
use Rattle.words.specs.Ranges.{inside}
use Rattle.words.proofs.Words.{length_flat}
use Rattle.words.proofs.Ranges.{words_back}
use Rattle.ranges.specs.Sound.{below}
use Rattle.ranges.proofs.Below.{below_long, below_all, byte_leb}
use Rattle.image.proofs.Parts.{flat_words}
use Rattle.slot.specs.Slot.{slot_greatest, figures_ranged, slot_sound}

-- at most a greatest is within a range from 0 on
below_inside : (hs ws : List ℕ) → below hs ws ≡ true → inside (replicate (length ws) 0) hs ws ≡ true
unfolding below inside
below_inside [] [] e = refl
below_inside [] (w ∷ ws) e = absurd (false≢true e)
below_inside (h ∷ hs) [] e = absurd (false≢true e)
below_inside (h ∷ hs) (w ∷ ws) e = rw (le-leb 0 w zero-le, and_left (leb w h) (below hs ws) e, below_inside hs ws (and_right (leb w h) (below hs ws) e))

-- words are bytes
flat_bytes : (ws : List ℕ) → below (replicate (length ws * 4) 255) (flat ws) ≡ true
unfolding below flat
flat_bytes [] = refl
flat_bytes (w ∷ ws) =
    let n : length (w ∷ ws) * 4 ≡ suc (suc (suc (suc (length ws * 4)))) = omega arith in
    rw (n, byte_leb w, byte_leb (w / 256), byte_leb (w / 65536), byte_leb (w / 16777216), flat_bytes ws)

module _ (v : List ℕ) (e : figures_ranged v ≡ true) where
  pub many : length v ≡ 51
  many = below_long slot_greatest v e

  pub slot_long : length (flat v) ≡ 204
  slot_long = length_flat v ∙ ap (λ (n : ℕ). n * 4) many

  pub words_are : words_of 51 (flat v) ≡ v
  words_are =
      rw (append-nil, many) at (words_back (replicate (length v) 0) slot_greatest v [] refl (below_inside slot_greatest v e))

  pub slot_tested : slot_sound (flat v) ≡ true
  unfolding slot_sound
  slot_tested =
      let b = rw many at (flat_bytes v) in
      rw (eq-eqb (length (flat v)) 204 slot_long, b, words_are, e)

module _ (b : List ℕ) (e : slot_sound b ≡ true) where
  pub slot_bytes : length b ≡ 204
  unfolding slot_sound
  slot_bytes = eqb-true (length b) 204 (and_left (eqb (length b) 204) _ e)

  parts : (below (replicate 204 255) b && figures_ranged (words_of 51 b)) ≡ true
  unfolding slot_sound
  parts = and_right (eqb (length b) 204) _ e

  pub slot_ranged : figures_ranged (words_of 51 b) ≡ true
  slot_ranged = and_right (below (replicate 204 255) b) _ parts

  pub slot_stays : flat (words_of 51 b) ≡ b
  slot_stays =
      let n = slot_bytes in
      let f : (i : ℕ) → i < 204 → get_or b i 0 ≤ 255 = λ i h. rw (get_or-replicate {A = ℕ} 204 i 255 0 h) at (below_all (replicate 204 255) b (and_left (below (replicate 204 255) b) _ parts) i) in
      flat_words 51 b (omega arith) f ∙ take_all 204 b (omega arith)
