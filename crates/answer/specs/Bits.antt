-- A Bool as a number. Assumes nothing.
use Rattle.std.specs.Prelude.{ℕ, Bool}
use mir.Val.{bool_byte}

-- 1 for true, 0 for false, as a cast of the code gives it
abbrev pub flag : Bool → ℕ
flag b = bool_byte b
