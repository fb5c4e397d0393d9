-- Demand 3 of one frame, for whatever stands. Assumes nothing.
use Rattle.std.specs.Prelude.{◌≡◌, Bool, not, ◌&&◌, ◌||◌, ℕ, ◌+◌, ◌<◌, ◌≤◌, eqb}
use Rattle.answer.specs.Bits.{flag}
use Rattle.causes.specs.Causes.{tim_acts, path_ssf, path_down, head_of, causes_of, path_actions}
use Rattle.causes.specs.declared.Standing.{Standing}

-- "Failing causes are cLOF, cLOM, cOCI, cLCK and a cTIM whose TIM acts"
abbrev pub section_tim : Standing → Bool
section_tim d = (causes_of d).section.tim && tim_acts d.section.tim d.section.disabled

abbrev pub path_tim : Standing → Bool
path_tim d = (causes_of d).path.tim && tim_acts d.path.tim d.path.disabled

-- how many failing causes stand
abbrev pub failing : Standing → ℕ
failing d =
    flag (causes_of d).line.lof + flag (causes_of d).line.lom + flag (section_tim d)
    + flag (causes_of d).path.oci + flag (causes_of d).path.lck + flag (path_tim d)

-- "each frame under heads 3, 4, 5, 7, 8, 9 has exactly its own (5 the section's cTIM, 9 the path's), under the others none. The path
-- is reported failed where its aTSF stands." The path's blocks are counted exactly under heads 0 and 9.
pub record OneCause (d : Standing) : Type 0 where
  pub head : head_of d < 10
  pub lof : (causes_of d).line.lof ≡ eqb (head_of d) 3
  pub lom : (causes_of d).line.lom ≡ eqb (head_of d) 4
  pub tim : section_tim d ≡ eqb (head_of d) 5
  pub oci : (causes_of d).path.oci ≡ eqb (head_of d) 7
  pub lck : (causes_of d).path.lck ≡ eqb (head_of d) 8
  pub pathtim : path_tim d ≡ eqb (head_of d) 9
  pub alone : failing d ≤ 1
  pub failed : (path_actions (path_ssf d) d.path 0).tsf ≡ not (eqb (head_of d) 0)
  pub counted : not (path_down (path_ssf d) d.path) ≡ (eqb (head_of d) 0 || eqb (head_of d) 9)
