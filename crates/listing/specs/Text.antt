-- The text of the listing's lines (document 01, "Trace records and the listing"). Assumes nothing.
use Rattle.std.specs.Prelude.{ℕ, zero, suc, ◌+◌, ◌-◌, ◌/◌, ◌%◌, cond, List, [], ◌∷◌, ◌++◌, leb, ltb}

-- the decimal digits of a number, of f digits at most: a digit d is the byte 48 + d
unfoldable pub decimal_in : ℕ → ℕ → List ℕ
decimal_in zero n = []
decimal_in (suc f) n = cond (ltb n 10) ((48 + n) ∷ []) (decimal_in f (n / 10) ++ ((48 + n % 10) ∷ []))

-- the decimal digits of a number of 64 bits, of which none has more than 20
abbrev pub decimal_of : ℕ → List ℕ
decimal_of n = decimal_in 20 n

-- a blank and a number
unfoldable pub spaced : ℕ → List ℕ
spaced n = 32 ∷ decimal_of n

unfoldable pub fields_of : List ℕ → List ℕ
fields_of [] = []
fields_of (n ∷ ns) = spaced n ++ fields_of ns

-- the start of a line: a letter, and numbers each after a blank
abbrev pub line_start : ℕ → List ℕ → List ℕ
line_start letter ns = letter ∷ fields_of ns

-- a line: its start and a line end
unfoldable pub text_line : ℕ → List ℕ → List ℕ
text_line letter ns = line_start letter ns ++ (10 ∷ [])

-- "S: second from 1, frames, heads 0 to 9, section near blocks, far blocks, near DS, far DS, then the path's four." "Each S line gains the four
-- figures of every provisioned level, lowest level first." (document 02, K1) "The sum comes last in each layer's group of S fields." (document 02, K7)
abbrev pub second_line : List ℕ → List ℕ
second_line figures = text_line 83 figures

-- "A refusal prints `R`, its number and the record's byte offset"
abbrev pub refusal_line : ℕ → ℕ → List ℕ
refusal_line number offset = text_line 82 (number ∷ offset ∷ [])

-- "E: marks and frames accepted."
abbrev pub end_line : ℕ → ℕ → List ℕ
end_line marks frames = text_line 69 (marks ∷ frames ∷ [])

-- what is written at a place of a buffer of a length: a line where the buffer has its room there, otherwise nothing
unfoldable pub fitted : ℕ → ℕ → ℕ → List ℕ → List ℕ
fitted long at room line = cond (leb room (long - at)) line []

-- the room that the digits of a number are given
abbrev pub number_room : ℕ
number_room = 20

-- the room that a start with three numbers is given: its letter, and 21 bytes for each number
abbrev pub start_room : ℕ
start_room = 64

-- the room that the lines of a reported second are given: two bytes for a line, and 21 for each number, of which the line of a second has 52 at most, and those of a
-- quarter-hour and a day together 48 (document 02, K6 and K7)
abbrev pub second_room : ℕ
second_room = 1094

-- the line of a quarter-hour or a day by itself has 24
abbrev pub bin_room : ℕ
bin_room = 506

abbrev pub pair_room : ℕ
pair_room = 44
