-- Bytes written over others. Assumes nothing.
use Rattle.std.specs.Prelude.{List, ◌++◌, ℕ, ◌+◌, length, take, drop}

-- d with v written over it from a place on
unfoldable pub over : List ℕ → ℕ → List ℕ → List ℕ
over d at v = take at d ++ v ++ drop (at + length v) d
