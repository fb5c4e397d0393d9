-- Names as bytes. Assumes nothing.
use Rattle.std.specs.Prelude.{ℕ, zero, suc, ◌+◌, List, [], ◌∷◌, ◌≡◌, refl}
use Prim.Native.Char.{code}
use Prim.Native.String.{String, len, char_at}

-- n bytes of a text of plain characters, from a place on
abbrev pub bytes_from : String → ℕ → ℕ → List ℕ
bytes_from s at zero = []
bytes_from s at (suc n) = code (char_at s at) ∷ bytes_from s (at + 1) n

-- the bytes of a text of plain characters
abbrev pub bytes : String → List ℕ
bytes s = bytes_from s 0 (len s)

computed : bytes "SM.d" ≡ 83 ∷ 77 ∷ 46 ∷ 100 ∷ []
computed = refl
