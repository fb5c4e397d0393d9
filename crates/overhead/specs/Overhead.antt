-- "One frame's overhead" (document 01): what is read from the 64 bytes. Bytes past the end count as 0. Assumes nothing.
use Rattle.std.specs.Prelude.{Bool, cond, ◌&&◌, List, ℕ, ◌+◌, ◌-◌, ◌*◌, ◌/◌, ◌%◌, ◌^◌, leb, eqb, get_or}
use Rattle.overhead.specs.declared.Field.{Field}
use Rattle.overhead.specs.declared.Overhead.{Overhead}

-- "four rows of columns 1 to 16, row after row. Columns .. count from 1": the byte of a row and a column
abbrev pub byte_at : List ℕ → ℕ → ℕ → ℕ
byte_at o row column = get_or o ((row - 1) * 16 + (column - 1)) 0

-- "bits count from 1; bit 1 is the highest": bit i of a byte
abbrev pub bit_of : ℕ → ℕ → Bool
bit_of i b = eqb (b / 2 ^ (8 - i) % 2) 1

-- columns 3 to 5 = F6 28 28 (8.2.1)
unfoldable pub three_of : List ℕ → Bool
three_of o = eqb (byte_at o 1 3) 0xF6 && eqb (byte_at o 1 4) 0x28 && eqb (byte_at o 1 5) 0x28

-- columns 2 to 5 = F6 F6 28 28 (8.2.1, house)
unfoldable pub four_of : List ℕ → Bool
four_of o = eqb (byte_at o 1 2) 0xF6 && three_of o

-- "SM and PM: TTI byte, BIP-8 byte, status byte. Status bits 1 to 4 are BEI, bit 5 BDI. In SM bit 6 is IAE and bits 7 and 8 are
-- ignored. In PM bits 6 to 8 are STAT."
unfoldable pub field_of : ℕ → ℕ → Field
field_of tti status = record { tti = tti; bei = status / 16; bdi = bit_of 5 status; iae = bit_of 6 status; stat = status % 8 }

-- row 1: columns 1 to 6 FAS, column 7 MFAS, columns 8 to 10 section (SM); row 3: columns 10 to 12 path (PM)
unfoldable pub overhead_of : List ℕ → Overhead
overhead_of o = record {
  four = four_of o;
  three = three_of o;
  mfas = byte_at o 1 7;
  section = field_of (byte_at o 1 8) (byte_at o 1 10);
  path = field_of (byte_at o 3 10) (byte_at o 3 12);
}

-- TTI byte, BIP-8 byte and status byte stand side by side: the field that begins at a row and a column
abbrev pub field_from : List ℕ → ℕ → ℕ → Field
field_from o row column = field_of (byte_at o row column) (byte_at o row (column + 2))

-- "By G.709 their three-byte fields begin at row 3 columns 7, 4, 1 for levels 1 to 3 and row 2 columns 11, 8, 5 for levels 4 to 6." (document 02,
-- K1; their status bits are those of PM) There is no other level: its field is zeros.
unfoldable pub level_field : List ℕ → ℕ → Field
level_field o level =
    cond (eqb level 1) (field_from o 3 7)
    (cond (eqb level 2) (field_from o 3 4)
    (cond (eqb level 3) (field_from o 3 1)
    (cond (eqb level 4) (field_from o 2 11)
    (cond (eqb level 5) (field_from o 2 8)
    (cond (eqb level 6) (field_from o 2 5) (field_of 0 0))))))

-- "BEI 1 to 8 is one far-end errored block. 0 and 9 to 15 are none."
unfoldable pub far_block : ℕ → Bool
far_block bei = leb 1 bei && leb bei 8
