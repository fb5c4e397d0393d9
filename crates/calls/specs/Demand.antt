-- Demand 3 as C has it: of the records that otn_mark and otn_pending fill and of the report that otn_step answers. Assumes nothing.
use Rattle.std.specs.Prelude.{◌≡◌, Bool, not, ◌&&◌, List, ℕ, ◌+◌, ◌*◌, ◌≤◌, ◌<◌, eqb, length, get_or}
use Rattle.answer.specs.Bits.{flag}
use Rattle.answer.specs.Bounded.{Bounded}
use Rattle.words.specs.Words.{word_at}
use Rattle.settings.specs.declared.Settings.{Settings}
use Rattle.history.specs.History.{Frame}
use Rattle.word.specs.Table.{bits_of}
use Rattle.card.specs.Calls.{Provision, fresh_refusal, fresh_sup}
use Rattle.calls.specs.History.{otn_step, otn_mark, otn_pending, act_refusal, act_answer, act_fills, Use, bytes_after, Course, course_of, AllBytes}
use Rattle.calls.specs.ByPage.{next_reported, pending_now}

-- a bit of a report, and its head, as C reads them (otn_report_bit, otn_head)
abbrev pub report_bit : ℕ → ℕ → Bool
report_bit r i = eqb (bits_of r i 1) 1

abbrev pub report_head : ℕ → ℕ
report_head r = bits_of r 8 4

-- "a cTIM whose TIM acts": OTN_SECTION_CTIM and OTN_PATH_CTIM, where TIMActDis of the settings does not stand
abbrev pub section_tim_bit : Settings → ℕ → Bool
section_tim_bit p r = report_bit r 46 && not p.section.disabled

abbrev pub path_tim_bit : Settings → ℕ → Bool
path_tim_bit p r = report_bit r 52 && not p.path.disabled

-- Each frame is under one of ten heads. "The path is reported failed where its aTSF stands": under every head but 0. Each failing cause
-- stands exactly under its own head, and at most one stands.
pub record ReportedCause (p : Settings) (r : ℕ) : Type 0 where
  pub head : report_head r < 10
  -- OTN_PATH_ATSF
  pub failed : report_bit r 37 ≡ not (eqb (report_head r) 0)
  -- OTN_CLOF, OTN_CLOM
  pub lof : report_bit r 44 ≡ eqb (report_head r) 3
  pub lom : report_bit r 45 ≡ eqb (report_head r) 4
  pub tim : section_tim_bit p r ≡ eqb (report_head r) 5
  -- OTN_PATH_COCI, OTN_PATH_CLCK
  pub oci : report_bit r 50 ≡ eqb (report_head r) 7
  pub lck : report_bit r 51 ≡ eqb (report_head r) 8
  pub pathtim : path_tim_bit p r ≡ eqb (report_head r) 9
  pub alone : flag (report_bit r 44) + flag (report_bit r 45) + flag (section_tim_bit p r)
      + flag (report_bit r 50) + flag (report_bit r 51) + flag (path_tim_bit p r) ≤ 1

-- a figure of a record, as C reads it (otn_figure)
abbrev pub figure_in : List ℕ → ℕ → ℕ
figure_in r i = word_at r (i * 4)

-- A record filled with a second's figures: its words are they. The frames under the ten heads (OTN_UNDER) add up to the frames (OTN_FRAMES); neither of the
-- path's block counts (OTN_PATH_NEAR, OTN_PATH_FAR) is more than the frames under heads 0 and 9. In section, path and each level "the sum is at least the far blocks and at
-- most eight times them" (document 02, K7).
pub record RecordedSecond (figures r : List ℕ) : Type 0 where
  pub words : (i : ℕ) → i < 52 → figure_in r i ≡ get_or figures i 0
  pub sum : figure_in r 2 + figure_in r 3 + figure_in r 4 + figure_in r 5 + figure_in r 6
      + figure_in r 7 + figure_in r 8 + figure_in r 9 + figure_in r 10 + figure_in r 11 ≡ figure_in r 1
  pub near_most : figure_in r 17 ≤ figure_in r 2 + figure_in r 11
  pub far_most : figure_in r 18 ≤ figure_in r 2 + figure_in r 11
  pub section_sum_is : Bounded (figure_in r 13) (figure_in r 16)
  pub path_sum : Bounded (figure_in r 18) (figure_in r 21)
  pub level_sum_is : (n : ℕ) → 1 ≤ n → n ≤ 6 → Bounded (figure_in r (18 + 5 * n)) (figure_in r (21 + 5 * n))

-- Demand 3 on bytes: what holds of the next mark, of the pending second and of the next frame on the supervisor's bytes b after uses whose course is c. "demand 3
-- speaks of each reported second"; its "heads and failing causes stay those of line, section and path" (document 02).
pub record ByteDemand3 (b : List ℕ) (c : Course) : Type 0 where
  pub recorded : (out : List ℕ) → act_answer b (otn_mark out) ≡ 256 → length out ≡ 208 → RecordedSecond (next_reported c) (act_fills b (otn_mark out))
  pub pending : (out : List ℕ) → act_answer b (otn_pending out) ≡ 256 → length out ≡ 208 → RecordedSecond (pending_now c) (act_fills b (otn_pending out))
  pub causes : (f : Frame) (counts : List ℕ) → act_refusal b (otn_step f counts) ≡ 0 → ReportedCause c.settings (act_answer b (otn_step f counts))

-- It holds of every list of uses after an accepted otn_fresh on any bytes.
abbrev pub EveryByteDemand3 : Type 0
EveryByteDemand3 = (sup : List ℕ) (p : Provision) (uses : List Use) → fresh_refusal sup p ≡ 0 → AllBytes uses
    → ByteDemand3 (bytes_after (fresh_sup sup p) uses) (course_of p uses)
