-- A summary as 184 bytes, 23 numbers of 64 bits, and what otn_summary and otn_join answer and leave (document 02, K6). "A refusal answers its number and nothing else;
-- supervisor and lent buffers keep their contents." A lent output gets the first bytes that it has room for. Assumes nothing.
use Rattle.std.specs.Prelude.{ℕ, ◌≡◌, cond, List, [], ◌∷◌, eqb, leb, length}
use Rattle.answer.specs.Checks.{Check, check, first_of}
use Rattle.codec.specs.Over.{poured}
use Rattle.words.specs.Words.{flat8, words_of, numbers_of as numbers_in}
use Rattle.summary.specs.Summary.{valid_of, join_checks, added_of, second_of, numbers_of, summary_by}
use Rattle.summary.specs.Laws.{Sound}
use Rattle.summary.specs.declared.Summary.{Summary}

-- a summary's bytes, and the summary of bytes
unfoldable pub summary_bytes : Summary → List ℕ
summary_bytes s = flat8 (numbers_of s)

unfoldable pub summary_from : List ℕ → Summary
summary_from b = summary_by (numbers_in 23 b)

-- the second of a record, by its first 22 words
unfoldable pub recorded_of : List ℕ → Summary
recorded_of b = second_of (words_of 22 b)

-- otn_summary: 26 where the record has fewer bytes than these words take, or they are no summary of one second
abbrev pub summary_checks : List ℕ → List Check
summary_checks b = check 26 (leb 88 (length b)) ∷ check 26 (valid_of (recorded_of b)) ∷ []

unfoldable pub summary_refusal : List ℕ → ℕ
summary_refusal b = first_of (summary_checks b)

unfoldable pub summary_out : List ℕ → List ℕ → List ℕ
summary_out b out = cond (eqb (summary_refusal b) 0) (poured out (summary_bytes (recorded_of b))) out

pub record SummaryCall (b out : List ℕ) (r : ℕ) (filled : List ℕ) : Type 0 where
  pub answers : r ≡ summary_refusal b
  pub fills : filled ≡ summary_out b out

-- otn_join: 26 where one of the two has another length, then as two summaries are joined: 26, 20, 21
abbrev pub joined_checks : List ℕ → List ℕ → List Check
joined_checks a b = check 26 (eqb (length a) 184) ∷ check 26 (eqb (length b) 184) ∷ join_checks (summary_from a) (summary_from b)

unfoldable pub joined_refusal : List ℕ → List ℕ → ℕ
joined_refusal a b = first_of (joined_checks a b)

unfoldable pub joined_out : List ℕ → List ℕ → List ℕ → List ℕ
joined_out a b out = cond (eqb (joined_refusal a b) 0) (poured out (summary_bytes (added_of (summary_from a) (summary_from b)))) out

pub record JoinCall (a b out : List ℕ) (r : ℕ) (filled : List ℕ) : Type 0 where
  pub answers : r ≡ joined_refusal a b
  pub fills : filled ≡ joined_out a b out

-- the bytes of a summary are 184, and it is read back from them
pub record SameSummary (s : Summary) : Type 0 where
  pub long : length (summary_bytes s) ≡ 184
  pub back : summary_from (summary_bytes s) ≡ s

abbrev pub EverySame : Type 0
EverySame = (s : Summary) → Sound s → SameSummary s
