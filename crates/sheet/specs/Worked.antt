-- Frames worked on the sheet. Assumes nothing.
use Rattle.std.specs.Prelude.{◌≡◌, false, true, [], ◌∷◌, ◌++◌, map, ℕ, replicate}
use Rattle.settings.specs.declared.Options.{Options}
use Rattle.settings.specs.declared.Settings.{Settings}
use Rattle.history.specs.History.{Frame}
use Rattle.page.specs.Page.{each}
use Rattle.sheet.specs.Sheet.{LevelEvent, counted, dLTC, five}

-- k = 1, trace mode 0
abbrev pub mode0 : Options
mode0 = record { thr = 1; degm = 2; mode = 0; disabled = false; names = replicate 32 0 }

abbrev pub first : Settings
first = record { k = 1; section = mode0; path = mode0 }

-- an overhead of zeros, in which every level has STAT 000; with flags, and each of the eight counts 1
abbrev pub zeros : ℕ → Frame
zeros flags = record { overhead = replicate 64 0; flags = flags; sm = 1; pm = 1 }

abbrev pub ones : LevelEvent
ones = counted (zeros 0) (replicate 6 1)

pub record SheetWorked : Type 0 where
  -- five such frames: dLTC stands from the third on, so that two blocks are counted, and near DS
  pub second : map (λ (n : ℕ). five first n mode0 (replicate 5 ones)) (1 ∷ 2 ∷ 3 ∷ 4 ∷ 5 ∷ 6 ∷ [])
      ≡ replicate 6 (2 ∷ 0 ∷ 1 ∷ 0 ∷ 0 ∷ [])
  -- of twelve, the latest first, the sixth and the seventh have TSF-P: dLTC in frames 3 to 5, and again from the tenth on
  pub ltc : map (λ (n : ℕ). each (λ f l. dLTC first n (f ∷ l)) (replicate 5 (zeros 0) ++ (replicate 2 (zeros 1) ++ replicate 5 (zeros 0)))) (1 ∷ 2 ∷ 3 ∷ 4 ∷ 5 ∷ 6 ∷ [])
      ≡ replicate 6 (replicate 3 true ++ (replicate 4 false ++ (replicate 3 true ++ replicate 2 false)))
