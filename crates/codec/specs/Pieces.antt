-- An image in pieces: bytes of known widths, one after the other. Assumes nothing.
use Rattle.std.specs.Prelude.{◌≡◌, List, [], ◌∷◌, ◌++◌, ℕ, zero, suc, ◌+◌, length, take, drop}
use Rattle.codec.specs.Over.{laid}

pub record Piece : Type 0 where
  pub width : ℕ
  pub bytes : List ℕ

abbrev pub piece : ℕ → List ℕ → Piece
piece n x = record { width = n; bytes = x }

-- the bytes of each piece in turn
abbrev pub joined : List Piece → List ℕ
joined [] = []
joined (p ∷ ps) = p.bytes ++ joined ps

-- each piece is as long as its width says
abbrev pub Sized : List Piece → Type 0
Sized [] = Unit {0}
Sized (p ∷ ps) = (length p.bytes ≡ p.width) × Sized ps

-- the widths of all pieces, and of the first i
abbrev pub widths : List Piece → ℕ
widths [] = 0
widths (p ∷ ps) = p.width + widths ps

abbrev pub offset : ℕ → List Piece → ℕ
offset zero ps = 0
offset (suc i) [] = 0
offset (suc i) (p ∷ ps) = p.width + offset i ps

-- each piece laid over d, the first at a place and each behind the one before it
abbrev pub lays : List ℕ → ℕ → List Piece → List ℕ
lays d at [] = d
lays d at (p ∷ ps) = lays (laid d at p.bytes) (at + p.width) ps

-- the bytes and the width of piece i, and the pieces with other bytes in its place
abbrev pub bytes_at : ℕ → List Piece → List ℕ
bytes_at i [] = []
bytes_at zero (p ∷ ps) = p.bytes
bytes_at (suc i) (p ∷ ps) = bytes_at i ps

abbrev pub width_at : ℕ → List Piece → ℕ
width_at i [] = 0
width_at zero (p ∷ ps) = p.width
width_at (suc i) (p ∷ ps) = width_at i ps

abbrev pub swapped : ℕ → List ℕ → List Piece → List Piece
swapped i v [] = []
swapped zero v (p ∷ ps) = piece p.width v ∷ ps
swapped (suc i) v (p ∷ ps) = p ∷ swapped i v ps

-- a list cut into pieces of given widths
abbrev pub cut : List ℕ → List ℕ → List Piece
cut [] d = []
cut (w ∷ ws) d = piece w (take w d) ∷ cut ws (drop w d)
