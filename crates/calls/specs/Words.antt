-- The record of a second as C reads it: a row for each of its words, named as include/otn.h names it; then the five words of each level. Assumes
-- nothing.
use Rattle.std.specs.Prelude.{◌≡◌, true, List, [], ◌∷◌, ℕ, ◌+◌, ◌-◌, ◌*◌, ◌≤◌, ◌<◌, length, get_or}
use Prim.Native.String.{String}
use Rattle.answer.specs.Bits.{flag}
use Rattle.second.specs.Second.{figures_of}
use Rattle.second.specs.declared.Second.{Second}
use Rattle.second.specs.declared.Blocks.{Blocks}
use Rattle.level.specs.Level.{level_closed}
use Rattle.tandem.specs.Levels.{level_at}
use Rattle.tandem.specs.Tandem.{marked_of}
use Rattle.tandem.specs.declared.Tandem.{Tandem}

-- the name in C, the word's place, and what it holds of the second's number and of the closed second
pub record Word : Type 0 where
  pub name : String
  pub place : ℕ
  pub value : ℕ → Second → ℕ

abbrev pub word : String → ℕ → (ℕ → Second → ℕ) → Word
word name place value = record { name = name; place = place; value = value }

-- OTN_UNDER is the first of ten words, one for each head
abbrev pub record_table : List Word
record_table =
    word "OTN_SECOND" 0 (λ n c. n)
    ∷ word "OTN_FRAMES" 1 (λ n c. c.frames.0)
    ∷ word "OTN_UNDER" 2 (λ n c. get_or c.heads 0 0)
    ∷ word "OTN_SECTION_NEAR" 12 (λ n c. c.section.near.0)
    ∷ word "OTN_SECTION_FAR" 13 (λ n c. c.section.far.0)
    ∷ word "OTN_SECTION_NEAR_DS" 14 (λ n c. flag c.section.neards)
    ∷ word "OTN_SECTION_FAR_DS" 15 (λ n c. flag c.section.fards)
    ∷ word "OTN_SECTION_FAR_SUM" 16 (λ n c. c.section.sum.0)
    ∷ word "OTN_PATH_NEAR" 17 (λ n c. c.path.near.0)
    ∷ word "OTN_PATH_FAR" 18 (λ n c. c.path.far.0)
    ∷ word "OTN_PATH_NEAR_DS" 19 (λ n c. flag c.path.neards)
    ∷ word "OTN_PATH_FAR_DS" 20 (λ n c. flag c.path.fards)
    ∷ word "OTN_PATH_FAR_SUM" 21 (λ n c. c.path.sum.0)
    ∷ []

-- each row's value stands in its place
abbrev pub WordsRead : List ℕ → ℕ → Second → List Word → Type 0
WordsRead figures n c [] = Unit {0}
WordsRead figures n c (w ∷ ws) = (get_or figures w.place 0 ≡ w.value n c) × WordsRead figures n c ws

-- The figures of every closed second: each row of the table, and OTN_UNDER + head for each of the ten heads.
pub record RecordBack (n : ℕ) (c : Second) : Type 0 where
  pub reads : WordsRead (figures_of n c) n c record_table
  pub under : (head : ℕ) → head < 10 → get_or (figures_of n c) (2 + head) 0 ≡ get_or c.heads head 0

abbrev pub EveryRecordBack : Type 0
EveryRecordBack = (n : ℕ) (c : Second) → RecordBack n c

-- The words of a level: the name in C, the place in the level's five, and what it holds of the level's closed second.
pub record LevelWord : Type 0 where
  pub name : String
  pub place : ℕ
  pub value : Blocks → ℕ

abbrev pub level_word : String → ℕ → (Blocks → ℕ) → LevelWord
level_word name place value = record { name = name; place = place; value = value }

abbrev pub level_words : List LevelWord
level_words =
    level_word "OTN_LEVEL_NEAR" 0 (λ b. b.near.0)
    ∷ level_word "OTN_LEVEL_FAR" 1 (λ b. b.far.0)
    ∷ level_word "OTN_LEVEL_NEAR_DS" 2 (λ b. flag b.neards)
    ∷ level_word "OTN_LEVEL_FAR_DS" 3 (λ b. flag b.fards)
    ∷ level_word "OTN_LEVEL_FAR_SUM" 4 (λ b. b.sum.0)
    ∷ []

-- as C reads them (otn_level_figure): each row's value stands in its place behind those of line, section and path, five for each level
abbrev pub LevelWordsRead : List ℕ → ℕ → Blocks → List LevelWord → Type 0
LevelWordsRead figures n b [] = Unit {0}
LevelWordsRead figures n b (w ∷ ws) = (get_or figures (22 + 5 * (n - 1) + w.place) 0 ≡ w.value b) × LevelWordsRead figures n b ws

-- The figures of every accepted mark: of each provisioned level its five.
abbrev pub EveryLevelWords : Type 0
EveryLevelWords = (t : Tandem) (n : ℕ) → length t.levels ≡ 6 → 1 ≤ n → n ≤ 6 → (marked_of t).refusal ≡ 0 → (level_at t.levels n).given ≡ true
    → LevelWordsRead (marked_of t).figures n (level_closed (level_at t.levels n).second) level_words
