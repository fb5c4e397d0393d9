-- Bytes read from others, and written over them. Assumes nothing.
use Rattle.std.specs.Prelude.{cond, List, ℕ, ◌+◌, leb, length, take, drop, replicate}
use Rattle.answer.specs.Over.{over}

-- n bytes from a place on, zeros where they do not lie within the bytes
unfoldable pub bytes_in : ℕ → ℕ → List ℕ → List ℕ
bytes_in n at l = cond (leb (at + n) (length l)) (take n (drop at l)) (replicate n 0)

-- d with v written over it from a place on where v lies within d, and d where it does not
unfoldable pub laid : List ℕ → ℕ → List ℕ → List ℕ
laid d at v = cond (leb (at + length v) (length d)) (over d at v) d

-- of v, the first bytes that d has room for, over the front of d
unfoldable pub poured : List ℕ → List ℕ → List ℕ
poured d v = over d 0 (take (length d) v)
