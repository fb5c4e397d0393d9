-- Summaries as C has them (document 02, K6): of the records that otn_mark and otn_pending fill, and joined in their bytes. Assumes nothing.
use Rattle.std.specs.Prelude.{◌≡◌, List, [], ◌∷◌, ◌++◌, ℕ, ◌+◌, ◌≤◌, length}
use Rattle.codec.specs.Over.{poured}
use Rattle.settings.specs.declared.Settings.{Settings}
use Rattle.watch.specs.Watch.{LevelCall, marks}
use Rattle.stretch.specs.Stretches.{stretch}
use Rattle.pack.specs.Pack.{summary_bytes, SummaryCall, JoinCall}
use Rattle.card.specs.Calls.{Provision, fresh_refusal, fresh_sup}
use Rattle.calls.specs.History.{otn_mark, otn_pending, act_answer, act_fills, Use, bytes_after, Course, course_of, AllBytes}
use Rattle.calls.specs.ByPage.{closed_by}

-- the bytes of the summary of n seconds from second i on, by the calls alone
abbrev pub stretch_bytes : Settings → List LevelCall → ℕ → ℕ → List ℕ
stretch_bytes p cs i n = summary_bytes (stretch p cs i n)

-- the calls of a course and a mark
abbrev pub with_mark : Course → List LevelCall
with_mark c = c.calls ++ (marks ∷ [])

-- What holds of the next mark, of the pending second and of two summaries, b being the supervisor's bytes after uses whose course is c.
pub record ByteSums (b : List ℕ) (c : Course) : Type 0 where
  -- otn_summary takes the record of the second that the next mark reports, and makes of it the bytes of that second as a stretch of one
  pub recorded : (r out : List ℕ) → act_answer b (otn_mark r) ≡ 256 → length r ≡ 208
      → SummaryCall (act_fills b (otn_mark r)) out 0 (poured out (stretch_bytes c.settings (with_mark c) (closed_by c) 1))
  -- and the record of the pending second
  pub pending : (r out : List ℕ) → act_answer b (otn_pending r) ≡ 256 → length r ≡ 208
      → SummaryCall (act_fills b (otn_pending r)) out 0 (poured out (stretch_bytes c.settings c.calls (closed_by c) 1))
  -- otn_join takes the bytes of two neighbouring stretches, either of which may be empty, and makes of them those of both
  pub joined : (i n m : ℕ) (out : List ℕ) → 1 ≤ i → i + (n + m) ≤ closed_by c + 1 → n + m ≤ 86400
      → JoinCall (stretch_bytes c.settings c.calls i n) (stretch_bytes c.settings c.calls (i + n) m) out 0
      (poured out (stretch_bytes c.settings c.calls i (n + m)))
  -- A caller that keeps the summary of all that was reported from second i on, and joins to it what the next mark reports, has that of both: by the calls with the mark.
  pub kept : (r out : List ℕ) (i n : ℕ) → act_answer b (otn_mark r) ≡ 256 → 1 ≤ i → i + n ≡ closed_by c → n + 1 ≤ 86400
      → JoinCall (stretch_bytes c.settings c.calls i n) (stretch_bytes c.settings (with_mark c) (closed_by c) 1) out 0
      (poured out (stretch_bytes c.settings (with_mark c) i (n + 1)))

-- It holds of every list of uses after an accepted otn_fresh on any bytes.
abbrev pub EveryByteSums : Type 0
EveryByteSums = (sup : List ℕ) (p : Provision) (uses : List Use) → fresh_refusal sup p ≡ 0 → AllBytes uses
    → ByteSums (bytes_after (fresh_sup sup p) uses) (course_of p uses)
