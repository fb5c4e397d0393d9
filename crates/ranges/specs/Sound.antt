-- The ranges of refusal 17 (docs/SUPERVISOR.md): the greatest of each byte of a record's numbers, and the bounds of its words. Assumes
-- nothing.
use Rattle.std.specs.Prelude.{Bool, true, false, ◌&&◌, List, [], ◌∷◌, ◌++◌, ℕ, eqb, leb, length, get_or, replicate}
use Rattle.codec.specs.Over.{bytes_in}
use Rattle.words.specs.Words.{word_at, words_in}
use Rattle.words.specs.Ranges.{inside}

-- each byte is at most its greatest, and there are as many of each
unfoldable pub below : List ℕ → List ℕ → Bool
below [] [] = true
below [] (b ∷ bs) = false
below (h ∷ hs) [] = false
below (h ∷ hs) (b ∷ bs) = leb b h && below hs bs

-- The line: its head (k and the seconds closed), then alignment. A byte of a word is at most 255, a spare byte is 0.
abbrev pub line_greatest : List ℕ
line_greatest =
    (3 ∷ (replicate 27 0 ++ replicate 4 255))
    ++ (1 ∷ 1 ∷ 4 ∷ 1 ∷ 255 ∷ 4 ∷ 1 ∷ 255 ∷ (replicate 12 0 ++ replicate 12 255))

-- twelve words: frames, ten heads, and a spare one
abbrev pub counts_ranged : List ℕ → Bool
counts_ranged c = inside (replicate 12 0) (replicate 11 400000 ++ (0 ∷ [])) c

unfoldable pub line_ranged : List ℕ → List ℕ → Bool
line_ranged w c =
    below line_greatest w && (leb 1 (get_or w 0 0)
    && (leb (word_at w 52) 989 && (leb (word_at w 56) 989 && (leb (word_at w 60) 989 && counts_ranged c))))

-- A layer: its front (DEGThr, DEGM, trace mode, TIM action disabled, dDEG and its run), then its state. A section has no STAT, a path
-- no dIAE and no dBIAE: their bytes are spare there. The state's last three words are the sum, near and far blocks.
abbrev pub layer_greatest : List ℕ → List ℕ → List ℕ
layer_greatest own seen =
    (replicate 4 255 ++ (10 ∷ 3 ∷ 1 ∷ 1 ∷ 9 ∷ replicate 23 0))
    ++ (1 ∷ 1 ∷ 3 ∷ 1 ∷ 4 ∷ (own ++ (1 ∷ 1 ∷ (seen ++ (replicate 3 0 ++ replicate 12 255)))))

abbrev pub section_greatest : List ℕ
section_greatest = layer_greatest (1 ∷ 4 ∷ 1 ∷ 2 ∷ 0 ∷ 0 ∷ 0 ∷ 0 ∷ []) (1 ∷ 1 ∷ [])

abbrev pub path_greatest : List ℕ
path_greatest = layer_greatest (0 ∷ 0 ∷ 0 ∷ 0 ∷ 7 ∷ 3 ∷ 1 ∷ 7 ∷ []) (0 ∷ 0 ∷ [])

unfoldable pub layer_ranged : List ℕ → List ℕ → Bool
layer_ranged greatest w =
    below greatest w && (leb 2 (get_or w 4 0)
    && (leb 1 (word_at w 0)
    && (leb (word_at w 0) 329492 && (leb (word_at w 52) 3200000 && (leb (word_at w 56) 400000 && leb (word_at w 60) 400000)))))

-- refusal 17: "handed-in supervisor has a wrong length or a number beyond its range". The bytes of the twelve words are bytes too.
unfoldable pub sound : List ℕ → Bool
sound l =
    eqb (length l) 688
    && (below (replicate 48 255) (bytes_in 48 64 l)
    && (line_ranged (bytes_in 64 0 l) (words_in 12 64 l)
    && (layer_ranged section_greatest (bytes_in 64 112 l) && layer_ranged path_greatest (bytes_in 64 400 l))))
