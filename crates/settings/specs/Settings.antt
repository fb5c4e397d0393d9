-- Provisioning (document 01, "Refusal numbers" 5 to 10; 6.2.3.4, 6.2.2.1). Assumes nothing.
use Rattle.std.specs.Prelude.{ℕ, Bool, cond, ◌&&◌, List, [], ◌∷◌, leb, eqb, length}
use Rattle.answer.specs.Checks.{Check, check, first_of}
use Rattle.settings.specs.declared.Request.{Request}
use Rattle.settings.specs.declared.Options.{Options}

-- the greatest DEGThr: "20,420 / 82,025 / 329,492 for k = 1 / 2 / 3"
unfoldable pub ceiling_of : ℕ → ℕ
ceiling_of k = cond (eqb k 1) 20420 (cond (eqb k 2) 82025 329492)

unfoldable pub thr_good : ℕ → ℕ → Bool
thr_good k thr = leb 1 thr && leb thr (ceiling_of k)

unfoldable pub degm_good : ℕ → Bool
degm_good degm = leb 2 degm && leb degm 10

-- 5 k not 1 to 3; 6 DEGThr; 7 "DEGM not 2 to 10"; 8 "trace mode above 3"; 9 "TIMActDis byte above 2"; 10 "expected names not 32 bytes".
-- Section and path have the same numbers.
abbrev pub settings_checks : ℕ → Request → Request → List ℕ → List ℕ → List Check
settings_checks k section path snames pnames =
    check 5 (leb 1 k && leb k 3)
    ∷ check 6 (thr_good k section.thr && thr_good k path.thr)
    ∷ check 7 (degm_good section.degm && degm_good path.degm)
    ∷ check 8 (leb section.mode 3 && leb path.mode 3)
    ∷ check 9 (leb section.dis 2 && leb path.dis 2)
    ∷ check 10 (eqb (length snames) 32 && eqb (length pnames) 32)
    ∷ []

unfoldable pub settings_refusal : ℕ → Request → Request → List ℕ → List ℕ → ℕ
settings_refusal k section path snames pnames = first_of (settings_checks k section path snames pnames)

-- "0 acts, 1 disabled, 2 default"; "Byte 2 (default) in TIMActDis shall mean disabled" (document 02, K5)
abbrev pub disabled_of : ℕ → Bool
disabled_of dis = leb 1 dis

-- what is kept of an accepted request
abbrev pub options_of : Request → List ℕ → Options
options_of r names = record { thr = r.thr; degm = r.degm; mode = r.mode; disabled = disabled_of r.dis; names = names }
