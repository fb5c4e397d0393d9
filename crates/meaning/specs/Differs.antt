-- One history in which byte 2 answers otherwise than before (document 02, K5): "Heads 5 and 9 take the new meaning." Assumes nothing.
use Rattle.std.specs.Prelude.{Bool, true, false, cond, not, ◌&&◌, List, [], ◌∷◌, ◌++◌, ℕ, T, replicate}
use Rattle.names.specs.Names.{same}
use Rattle.history.specs.History.{mark}
use Rattle.history.specs.Cases.{Seen, row, traced, zeroth, head, holds}
use Rattle.card.specs.Calls.{Provision, settings_by}
use Rattle.meaning.specs.Before.{settings_before}

-- Byte 2 in the section, whose SAPI is not the expected one: three cycles from the third frame on, and a mark. "Operators mistype names at turn-up and lose live service."
abbrev pub mistyped : Provision
mistyped = record {
  k = 1;
  section = record { thr = 1; degm = 2; mode = 1; dis = 2 };
  path = record { thr = 1; degm = 2; mode = 0; dis = 1 };
  snames = replicate 32 1;
  pnames = replicate 32 0;
}

-- the section's cTIM is told, the last frame has a head, and the second these figures
abbrev pub tells : ℕ → Bool → List ℕ → Seen → Bool
tells n failed figures x = x.report.causes.section.tim && cond failed x.report.path.tsf (not x.report.path.tsf) && head n x && same x.figures figures

-- it gave head 5, and gives 0 now; cTIM and the section's near DS are told in both, the path's near DS is not any more
pub record Differs : Type 0 where
  pub before : T (holds (row (settings_before mistyped) (traced 194 254 zeroth 0 ++ (mark ∷ []))
      (tells 5 true (1 ∷ 194 ∷ 193 ∷ 0 ∷ 0 ∷ 0 ∷ 0 ∷ 1 ∷ 0 ∷ 0 ∷ 0 ∷ 0 ∷ 0 ∷ 0 ∷ 1 ∷ 0 ∷ 0 ∷ 0 ∷ 0 ∷ 1 ∷ 0 ∷ 0 ∷ []))))
  pub now : T (holds (row (settings_by mistyped) (traced 194 254 zeroth 0 ++ (mark ∷ []))
      (tells 0 false (1 ∷ 194 ∷ 194 ∷ 0 ∷ 0 ∷ 0 ∷ 0 ∷ 0 ∷ 0 ∷ 0 ∷ 0 ∷ 0 ∷ 0 ∷ 0 ∷ 1 ∷ 0 ∷ 0 ∷ 0 ∷ 0 ∷ 0 ∷ 0 ∷ 0 ∷ []))))
