-- The figures of a slot as chunks of four bytes. Assumes nothing.
use mathlib.Core.Path.{◌≡◌, refl, ap, ◌∙◌}
use mathlib.Core.List.{List, ◌∷◌, map}
use Prim.Native.Nat.{ℕ, zero, suc}
use native.Mathlib.Omega.{arith}
use lib.ListN.{take, drop}
use lib.Seq.{get_or-take}
use Rattle.std.specs.Simd.{first_chunks}
use Rattle.words.specs.Words.{word_at, words_of}

-- the word of a chunk
abbrev pub word : List ℕ → ℕ
word four = word_at four 0

word_of_chunk : (b : List ℕ) → word_at b 0 ≡ word (take 4 b)
word_of_chunk b =
    omega (arith, get_or-take 4 b 0 0 (omega arith), get_or-take 4 b 1 0 (omega arith), get_or-take 4 b 2 0 (omega arith), get_or-take 4 b 3 0 (omega arith))

pub words_chunks : (n : ℕ) (b : List ℕ) → words_of n b ≡ map word (first_chunks 4 n b)
unfolding words_of
words_chunks zero b = refl
words_chunks (suc n) b = ap (λ (x : ℕ). x ∷ words_of n (drop 4 b)) (word_of_chunk b) ∙ ap (λ (l : List ℕ). word (take 4 b) ∷ l) (words_chunks n (drop 4 b))
