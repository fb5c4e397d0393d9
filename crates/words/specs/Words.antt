-- Numbers as little-endian words of four bytes: one after the other in a list of bytes, and read back. Assumes nothing.
use Rattle.std.specs.Prelude.{cond, List, [], ◌∷◌, ◌++◌, ℕ, zero, suc, ◌+◌, ◌*◌, ◌/◌, ◌%◌, leb, length, get_or, drop, replicate}
use Rattle.codec.specs.Over.{laid}
use Rattle.filter.specs.Filter.{up_of, add_of}

-- the four bytes of x, the lowest first
abbrev pub le4 : ℕ → List ℕ
le4 x = x % 256 ∷ x / 256 % 256 ∷ x / 65536 % 256 ∷ x / 16777216 % 256 ∷ []

-- the bytes of each number in turn
unfoldable pub flat : List ℕ → List ℕ
flat [] = []
flat (w ∷ ws) = le4 w ++ flat ws

-- the word of four bytes, the lowest first
abbrev pub word_of : ℕ → ℕ → ℕ → ℕ → ℕ
word_of a b c d = a + 256 * b + 65536 * c + 16777216 * d

-- the word whose first byte stands at `at`
abbrev pub word_at : List ℕ → ℕ → ℕ
word_at l at = word_of (get_or l at 0) (get_or l (at + 1) 0) (get_or l (at + 2) 0) (get_or l (at + 3) 0)

-- the first n words
unfoldable pub words_of : ℕ → List ℕ → List ℕ
words_of zero l = []
words_of (suc n) l = word_at l 0 ∷ words_of n (drop 4 l)

-- n words from a place on, zeros where they do not lie within the bytes
unfoldable pub words_in : ℕ → ℕ → List ℕ → List ℕ
words_in n at l = cond (leb (at + n * 4) (length l)) (words_of n (drop at l)) (replicate n 0)

-- one more in word i, and n at most; nothing where it does not lie within the bytes
unfoldable pub counted_in : List ℕ → ℕ → ℕ → List ℕ
counted_in l i n = laid l (i * 4) (le4 (up_of (word_at l (i * 4)) n))

-- so many more in word i, and `most` at most; nothing where it does not lie within the bytes
unfoldable pub added_in : List ℕ → ℕ → ℕ → ℕ → List ℕ
added_in l i more most = laid l (i * 4) (le4 (add_of (word_at l (i * 4)) more most))

-- A number of 64 bits as eight bytes: its low word, then its high word. The same of numbers, and read back.
abbrev pub le8 : ℕ → List ℕ
le8 x = le4 (x % 4294967296) ++ le4 (x / 4294967296)

unfoldable pub flat8 : List ℕ → List ℕ
flat8 [] = []
flat8 (x ∷ xs) = le8 x ++ flat8 xs

abbrev pub number_at : List ℕ → ℕ → ℕ
number_at l at = word_at l at + 4294967296 * word_at l (at + 4)

unfoldable pub numbers_of : ℕ → List ℕ → List ℕ
numbers_of zero l = []
numbers_of (suc n) l = number_at l 0 ∷ numbers_of n (drop 8 l)

-- the first n, zeros where they do not lie within the bytes
unfoldable pub numbers_in : ℕ → List ℕ → List ℕ
numbers_in n l = cond (leb (n * 8) (length l)) (numbers_of n l) (replicate n 0)
