-- The words that C reads, of a frame's report and of a tandem level: a row for each field, named as include/otn.h names it. Assumes nothing.
use Rattle.std.specs.Prelude.{◌≡◌, Bool, List, [], ◌∷◌, ℕ, ◌+◌, ◌/◌, ◌%◌, ◌^◌, ◌≤◌}
use Prim.Native.String.{String}
use Rattle.answer.specs.Bits.{flag}
use Rattle.signal.specs.Signal.{is_ais, is_oci, is_lck}
use Rattle.causes.specs.Causes.{report_of}
use Rattle.causes.specs.declared.Standing.{Standing}
use Rattle.causes.specs.declared.Report.{Report}
use Rattle.level.specs.Level.{dAIS, dLTC, dOCI, dLCK}
use Rattle.level.specs.declared.LevelStands.{LevelStands}
use Rattle.level.specs.declared.LevelActions.{LevelActions}
use Rattle.level.specs.declared.LevelCauses.{LevelCauses}
use Rattle.word.specs.Report.{report_word}
use Rattle.word.specs.Level.{Told, told, level_word}

-- the name in C, the lowest bit, how many bits, and what of the thing told they hold
pub record Bits (A : Type 0) : Type 0 where
  pub name : String
  pub from : ℕ
  pub width : ℕ
  pub value : A → ℕ

abbrev pub bits : {A : Type 0} → String → ℕ → ℕ → (A → ℕ) → Bits A
bits name from width value = record { name = name; from = from; width = width; value = value }

abbrev pub report_table : List (Bits Report)
report_table =
    bits "otn_refusal" 0 8 (λ r. 0)
    ∷ bits "otn_head" 8 4 (λ r. r.head)
    ∷ bits "OTN_IF" 12 1 (λ r. flag r.standing.line.inframe)
    ∷ bits "OTN_IM" 13 1 (λ r. flag r.standing.line.inmulti)
    ∷ bits "OTN_DLOF" 14 1 (λ r. flag r.standing.line.lof)
    ∷ bits "OTN_DLOM" 15 1 (λ r. flag r.standing.line.lom)
    ∷ bits "OTN_SECTION_SSF" 16 1 (λ r. flag r.section.ssf)
    ∷ bits "OTN_SECTION_DTIM" 17 1 (λ r. flag r.standing.section.tim)
    ∷ bits "OTN_SECTION_DBDI" 18 1 (λ r. flag r.standing.section.bdi)
    ∷ bits "OTN_SECTION_DIAE" 19 1 (λ r. flag r.standing.section.iae)
    ∷ bits "OTN_SECTION_DBIAE" 20 1 (λ r. flag r.standing.section.biae)
    ∷ bits "OTN_SECTION_DDEG" 21 1 (λ r. flag r.standing.section.deg)
    ∷ bits "OTN_PATH_SSF" 22 1 (λ r. flag r.path.ssf)
    ∷ bits "OTN_PATH_DAIS" 23 1 (λ r. flag (is_ais r.standing.path.signal))
    ∷ bits "OTN_PATH_DOCI" 24 1 (λ r. flag (is_oci r.standing.path.signal))
    ∷ bits "OTN_PATH_DLCK" 25 1 (λ r. flag (is_lck r.standing.path.signal))
    ∷ bits "OTN_PATH_DTIM" 26 1 (λ r. flag r.standing.path.tim)
    ∷ bits "OTN_PATH_DBDI" 27 1 (λ r. flag r.standing.path.bdi)
    ∷ bits "OTN_PATH_DDEG" 28 1 (λ r. flag r.standing.path.deg)
    ∷ bits "OTN_SECTION_ATSF" 29 1 (λ r. flag r.section.tsf)
    ∷ bits "OTN_SECTION_ATSD" 30 1 (λ r. flag r.section.tsd)
    ∷ bits "OTN_SECTION_ABDI" 31 1 (λ r. flag r.section.bdi)
    ∷ bits "OTN_SECTION_ABIAE" 32 1 (λ r. flag r.section.biae)
    ∷ bits "otn_section_abei" 33 4 (λ r. r.section.bei)
    ∷ bits "OTN_PATH_ATSF" 37 1 (λ r. flag r.path.tsf)
    ∷ bits "OTN_PATH_ATSD" 38 1 (λ r. flag r.path.tsd)
    ∷ bits "OTN_PATH_ABDI" 39 1 (λ r. flag r.path.bdi)
    ∷ bits "otn_path_abei" 40 4 (λ r. r.path.bei)
    ∷ bits "OTN_CLOF" 44 1 (λ r. flag r.causes.line.lof)
    ∷ bits "OTN_CLOM" 45 1 (λ r. flag r.causes.line.lom)
    ∷ bits "OTN_SECTION_CTIM" 46 1 (λ r. flag r.causes.section.tim)
    ∷ bits "OTN_SECTION_CDEG" 47 1 (λ r. flag r.causes.section.deg)
    ∷ bits "OTN_SECTION_CBDI" 48 1 (λ r. flag r.causes.section.bdi)
    ∷ bits "OTN_SECTION_CSSF" 49 1 (λ r. flag r.causes.section.ssf)
    ∷ bits "OTN_PATH_COCI" 50 1 (λ r. flag r.causes.path.oci)
    ∷ bits "OTN_PATH_CLCK" 51 1 (λ r. flag r.causes.path.lck)
    ∷ bits "OTN_PATH_CTIM" 52 1 (λ r. flag r.causes.path.tim)
    ∷ bits "OTN_PATH_CDEG" 53 1 (λ r. flag r.causes.path.deg)
    ∷ bits "OTN_PATH_CBDI" 54 1 (λ r. flag r.causes.path.bdi)
    ∷ bits "OTN_PATH_CSSF" 55 1 (λ r. flag r.causes.path.ssf)
    ∷ []

abbrev pub level_table : List (Bits Told)
level_table =
    bits "otn_refusal" 0 8 (λ t. 0)
    ∷ bits "OTN_TCM_PROVISIONED" 8 1 (λ t. flag t.given)
    ∷ bits "OTN_TCM_SSF" 9 1 (λ t. flag t.stands.ssf)
    ∷ bits "OTN_TCM_DLTC" 10 1 (λ t. flag (dLTC t.stands))
    ∷ bits "OTN_TCM_DAIS" 11 1 (λ t. flag (dAIS t.stands))
    ∷ bits "OTN_TCM_DOCI" 12 1 (λ t. flag (dOCI t.stands))
    ∷ bits "OTN_TCM_DLCK" 13 1 (λ t. flag (dLCK t.stands))
    ∷ bits "OTN_TCM_DTIM" 14 1 (λ t. flag t.stands.tim)
    ∷ bits "OTN_TCM_DBDI" 15 1 (λ t. flag t.stands.bdi)
    ∷ bits "OTN_TCM_DIAE" 16 1 (λ t. flag t.stands.iae)
    ∷ bits "OTN_TCM_DBIAE" 17 1 (λ t. flag t.stands.biae)
    ∷ bits "OTN_TCM_DDEG" 18 1 (λ t. flag t.stands.deg)
    ∷ bits "OTN_TCM_ATSF" 19 1 (λ t. flag t.actions.tsf)
    ∷ bits "OTN_TCM_ATSD" 20 1 (λ t. flag t.actions.tsd)
    ∷ bits "OTN_TCM_CSSF" 21 1 (λ t. flag t.causes.ssf)
    ∷ bits "OTN_TCM_CLTC" 22 1 (λ t. flag t.causes.ltc)
    ∷ bits "OTN_TCM_COCI" 23 1 (λ t. flag t.causes.oci)
    ∷ bits "OTN_TCM_CLCK" 24 1 (λ t. flag t.causes.lck)
    ∷ bits "OTN_TCM_CTIM" 25 1 (λ t. flag t.causes.tim)
    ∷ bits "OTN_TCM_CDEG" 26 1 (λ t. flag t.causes.deg)
    ∷ bits "OTN_TCM_CBDI" 27 1 (λ t. flag t.causes.bdi)
    ∷ []

-- the number of the bits from a place on, as C reads them: `word >> from & (2^width - 1)`
abbrev pub bits_of : ℕ → ℕ → ℕ → ℕ
bits_of word from width = word / 2 ^ from % 2 ^ width

-- each row's bits of the word hold its value
abbrev pub RowsRead : {A : Type 0} → ℕ → A → List (Bits A) → Type 0
RowsRead word a [] = Unit {0}
RowsRead word a (b ∷ bs) = (bits_of word b.from b.width ≡ b.value a) × RowsRead word a bs

-- where rows begin, and where they begin that lie side by side from a bit on
abbrev pub begins : {A : Type 0} → List (Bits A) → List ℕ
begins [] = []
begins (b ∷ bs) = b.from ∷ begins bs

abbrev pub side_by_side : {A : Type 0} → ℕ → List (Bits A) → List ℕ
side_by_side at [] = []
side_by_side at (b ∷ bs) = at ∷ side_by_side (at + b.width) bs

-- From the word of a thing each row of its table reads its own value; the rows lie side by side from bit 0.
pub record WordBack (A : Type 0) (word : ℕ) (a : A) (table : List (Bits A)) : Type 0 where
  pub reads : RowsRead word a table
  pub beside : begins table ≡ side_by_side 0 table

abbrev pub ReportBack : Standing → ℕ → ℕ → Type 0
ReportBack d sm pm = WordBack Report (report_word (report_of d sm pm)) (report_of d sm pm) report_table

-- of every report of an accepted frame, whose violation counts are at most 8
abbrev pub EveryReportBack : Type 0
EveryReportBack = (d : Standing) (sm pm : ℕ) → sm ≤ 8 → pm ≤ 8 → ReportBack d sm pm

-- of whatever is told of a level
abbrev pub EveryLevelBack : Type 0
EveryLevelBack = (given : Bool) (d : LevelStands) (a : LevelActions) (c : LevelCauses) → WordBack Told (level_word given d a c) (told given d a c) level_table
