-- The pending second (document 02, K3): a mark reports the second that was closed before it, discarded by pIAE and pBIAE of its own and of the second that the
-- mark closes, and makes that one pending. Assumes nothing.
use Rattle.std.specs.Prelude.{ℕ, ◌≡◌, Bool, false, cond, ◌||◌, List, [], ◌∷◌, ◌++◌, map, eqb, ltb, get_or, take, drop, replicate, Option, Some, None}
use Rattle.answer.specs.Bits.{flag}
use Rattle.second.specs.Second.{discard_of}
use Rattle.second.specs.declared.Blocks.{Blocks}
use Rattle.tandem.specs.Tandem.{TandemMarked, marked_of}
use Rattle.tandem.specs.declared.Level.{Level}
use Rattle.tandem.specs.declared.Tandem.{Tandem}
use Rattle.late.specs.declared.Erred.{Erred}
use Rattle.late.specs.declared.Late.{Late}

-- `refusal` as in `TandemMarked`; where a second is `told`, its figures
pub record LateMarked : Type 0 where
  pub refusal : ℕ
  pub told : Bool
  pub figures : List ℕ
  pub late : Late

-- where a second is pending, it is `told`, and its figures
pub record PendingSecond : Type 0 where
  pub told : Bool
  pub figures : List ℕ

-- the figures of a second that is told; of one that is not none are answered
abbrev pub if_told : Bool → List ℕ → Option (List ℕ)
if_told told figures = cond told (Some figures) None

-- no second is pending
abbrev pub fresh_late : Tandem → Late
fresh_late t = record { tandem = t; pending = replicate 51 0 }

-- pIAE and pBIAE of the open second: whether dIAE and dBIAE stood in some frame of it, in the section and in a level (13.2.1.2 and 14.5.1.1.3, notes 4
-- and 5). A second with no frame has neither.
abbrev pub section_erred : Tandem → Erred
section_erred t = record { iae = t.base.second.iae; biae = t.base.second.biae }

abbrev pub level_erred : Level → Erred
level_erred l = record { iae = l.second.iae; biae = l.second.biae }

abbrev pub levels_erred : Tandem → List Erred
levels_erred t = map level_erred t.levels

-- "pIAE discards near and far values .., pBIAE the far values": of a layer's five figures, near-end and far-end blocks, near and far DS, and the sum of far-end
-- violations: "it is discarded and stopped as the far block count is" (document 02, K7)
unfoldable pub void_five : Erred → List ℕ → List ℕ
void_five e v =
    cond e.iae 0 (get_or v 0 0)
    ∷ cond (e.iae || e.biae) 0 (get_or v 1 0)
    ∷ cond e.iae 0 (get_or v 2 0)
    ∷ cond (e.iae || e.biae) 0 (get_or v 3 0)
    ∷ cond (e.iae || e.biae) 0 (get_or v 4 0)
    ∷ []

-- of five figures for each level, each by its own
unfoldable pub void_levels : List Erred → List ℕ → List ℕ
void_levels [] v = []
void_levels (e ∷ es) v = void_five e (take 5 v) ++ void_levels es (drop 5 v)

-- "in the section and in each level": of the figures behind a second's number, frames, ten heads, the section's five, the path's five, each level's five. Frames,
-- heads and path stay.
unfoldable pub voided : Erred → List Erred → List ℕ → List ℕ
voided section levels v = take 11 v ++ (void_five section (take 5 (drop 11 v)) ++ (take 5 (drop 16 v) ++ void_levels levels (drop 21 v)))

-- The pending second's figures, its own discard made as it was closed. Its number is that of the seconds closed; "if there is one": none is closed at first.
unfoldable pub pending_of : Late → PendingSecond
pending_of s = record { told = ltb 0 s.tandem.base.seconds; figures = s.tandem.base.seconds ∷ s.pending }

-- "pIAE discards near and far values of its own and the earlier second, pBIAE the far values of both": the figures that the next mark reports
abbrev pub next_report : Late → List ℕ
next_report s = s.tandem.base.seconds ∷ voided (section_erred s.tandem) (levels_erred s.tandem) s.pending

-- A mark: "a report now comes one mark late and the supervisor holds one pending second. The first mark reports nothing". The second just closed, with its own
-- discard alone, decides dDEG and is pending from then on. A refused mark leaves the pending second.
unfoldable pub late_marked : Late → LateMarked
late_marked s =
    let a : TandemMarked = marked_of s.tandem in
    cond (eqb a.refusal 0)
    (record {
      refusal = 0;
      told = ltb 0 s.tandem.base.seconds;
      figures = next_report s;
      late = record { tandem = a.tandem; pending = drop 1 a.figures };
    })
    (record { refusal = a.refusal; told = false; figures = replicate 52 0; late = s })

-- a layer's values as figures
abbrev pub five_by : Blocks → List ℕ
five_by b = b.near.0 ∷ b.far.0 ∷ flag b.neards ∷ flag b.fards ∷ b.sum.0 ∷ []

-- The discard is the one by which a second is closed; and made again by the second behind it, it is made where dIAE or dBIAE stood in either.
pub record SameDiscard (b : Blocks) (own next : Erred) : Type 0 where
  pub values : void_five own (five_by b) ≡ five_by (discard_of b own.iae own.biae)
  pub twice : void_five next (void_five own (five_by b)) ≡ five_by (discard_of b (own.iae || next.iae) (own.biae || next.biae))

abbrev pub EverySameDiscard : Type 0
EverySameDiscard = (b : Blocks) (own next : Erred) → SameDiscard b own next
