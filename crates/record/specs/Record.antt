-- A trace's records: what a list of bytes begins with (document 01, "Trace records and the listing"; kinds 4 and 5 document 02, K1). Assumes
-- nothing.
use Rattle.std.specs.Prelude.{ℕ, zero, suc, pred, ◌+◌, ◌-◌, ◌*◌, ◌≤◌, cond, List, [], ◌∷◌, length, get_or, drop, take, ltb, eqb}
use Rattle.settings.specs.declared.Request.{Request}
use Rattle.record.specs.declared.Record.{Record}
use Rattle.record.specs.declared.Record.TheVariants.{Frame, Mark, Provisioning, Level, LevelFrame, Refused}

-- "A record is either a frame, a mark, a provisioning or a refusal"; and a level's provisioning, or a frame with the levels' counts. The
-- documents' numbers for each case: the kind,
abbrev pub kind_of : Record → ℕ
kind_of Frame = 1
kind_of Mark = 2
kind_of Provisioning = 3
kind_of Level = 4
kind_of LevelFrame = 5
kind_of (Refused n) = 0

-- the length, "counting kind and body": "Kind 1, length 69", "Kind 2, length 2", "Kind 3, length 81", "kind 4, length 42", "kind 5, length 75",
abbrev pub length_of : Record → ℕ
length_of Frame = 69
length_of Mark = 2
length_of Provisioning = 81
length_of Level = 42
length_of LevelFrame = 75
length_of (Refused n) = 0

-- and the refusal, 0 where there is none
abbrev pub refusal_in : Record → ℕ
refusal_in Frame = 0
refusal_in Mark = 0
refusal_in Provisioning = 0
refusal_in Level = 0
refusal_in LevelFrame = 0
refusal_in (Refused n) = n

-- two bytes and four, "all little-endian"
abbrev pub two_at : List ℕ → ℕ → ℕ
two_at s at = get_or s at 0 + 256 * get_or s (at + 1) 0

abbrev pub four_at : List ℕ → ℕ → ℕ
four_at s at = two_at s at + 65536 * two_at s (at + 2)

-- the record of a kind: 15 "kind unknown"
unfoldable pub of_kind : ℕ → Record
of_kind kind =
    cond (eqb kind (kind_of Frame))
    Frame
    (cond (eqb kind (kind_of Mark))
    Mark
    (cond (eqb kind (kind_of Provisioning))
    Provisioning
    (cond (eqb kind (kind_of Level))
    Level
    (cond (eqb kind (kind_of LevelFrame)) LevelFrame (Refused 15)))))

-- The record that a list of bytes begins with: "Two-byte length counting kind and body, two-byte kind, body". "Records: fewer than 4 bytes
-- is 14, then 15, a cut body 14": 15 is "kind unknown, or length wrong for it".
unfoldable pub record_of : List ℕ → Record
record_of ys =
    let r : Record = of_kind (two_at ys 2) in
    cond (ltb (length ys) 4)
    (Refused 14)
    (cond (eqb (length_of r) 0)
    (Refused 15)
    (cond (eqb (two_at ys 0) (length_of r))
    (cond (ltb (length ys) (length_of r + 2)) (Refused 14) r)
    (Refused 15)))

-- the record at a position
abbrev pub record_at : List ℕ → ℕ → Record
record_at s at = record_of (drop at s)

-- the bytes of a record, its length among them
abbrev pub size_of : Record → ℕ
size_of r = length_of r + 2

-- The records of a list of bytes, each as the bytes from it on: skip the rest of the present record, then take the next.
unfoldable pub records_from : List ℕ → ℕ → List (List ℕ)
records_from [] skip = []
records_from (y ∷ ys) (suc k) = records_from ys k
records_from (y ∷ ys) zero = (y ∷ ys) ∷ records_from ys (pred (size_of (record_of (y ∷ ys))))

abbrev pub records_of : List ℕ → List (List ℕ)
records_of xs = records_from xs 0

-- the body of a record that a list begins with: what follows the length and the kind
abbrev pub body_of : Record → List ℕ → List ℕ
body_of r ys = take (length_of r - 2) (drop 4 ys)

-- how many frames a record is
abbrev pub frames_in : Record → ℕ
frames_in Frame = 1
frames_in Mark = 0
frames_in Provisioning = 0
frames_in Level = 0
frames_in LevelFrame = 1
frames_in (Refused n) = 0

-- a record stands whole at a position, or it is a refusal
abbrev pub Within : List ℕ → ℕ → Record → Type 0
Within s at Frame = at + 71 ≤ length s
Within s at Mark = at + 4 ≤ length s
Within s at Provisioning = at + 83 ≤ length s
Within s at Level = at + 44 ≤ length s
Within s at LevelFrame = at + 77 ≤ length s
Within s at (Refused n) = Unit {0}

-- what a provisioning's body asks for a layer, by where its DEGThr stands, where its trace mode and where its TIMActDis: DEGM follows DEGThr
abbrev pub request_at : List ℕ → ℕ → ℕ → ℕ → Request
request_at body thr mode dis = record { thr = four_at body thr; degm = get_or body (thr + 4) 0; mode = get_or body mode 0; dis = get_or body dis 0 }

-- "Kind 3, length 81: k, SM DEGThr (4), SM DEGM, PM DEGThr (4), PM DEGM, SM mode, PM mode, SM TIMActDis, PM TIMActDis, SM names (32), PM
-- names (32)."
abbrev pub section_in : List ℕ → Request
section_in body = request_at body 1 11 13

abbrev pub path_in : List ℕ → Request
path_in body = request_at body 6 12 14

-- "kind 4, length 42, .. level, DEGThr (4), DEGM, mode, TIMActDis, names (32)"
abbrev pub level_in : List ℕ → Request
level_in body = request_at body 1 6 7
