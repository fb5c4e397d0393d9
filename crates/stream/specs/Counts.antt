-- How far a scan can come: no trace has more than 4,294,967,295 seconds of 400,000 frames, and six levels' provisionings. Assumes nothing.
use Rattle.std.specs.Prelude.{ℕ, ◌+◌, ◌*◌, ◌≤◌, ◌≡◌, false, cond, List, [], ◌∷◌, length}
use Rattle.tandem.specs.declared.Level.{Level}
use Rattle.trace.specs.declared.State.{State}

-- how many levels are provisioned
abbrev pub given_among : List Level → ℕ
given_among [] = 0
given_among (l ∷ ls) = cond l.given 1 0 + given_among ls

-- What holds of the offset and of the frames accepted wherever a scan stands: both are below 2 ^ 57. A mark has 52 figures,
-- a pending second 51 behind its number, and the levels are six.
pub record Counted (at frames : ℕ) (st : State) : Type 0 where
  pub fresh : st.begun ≡ false → (at ≡ 0) × (frames ≡ 0)
  pub held : st.sup.tandem.base.second.frames.0 ≤ 400000
  pub seconds : st.sup.tandem.base.seconds ≤ 4294967295
  pub few : frames ≤ 400000 * st.sup.tandem.base.seconds + st.sup.tandem.base.second.frames.0
  pub figures : length st.last ≡ 52
  pub pending : length st.sup.pending ≡ 51
  pub six : length st.sup.tandem.levels ≡ 6
  pub most : given_among st.sup.tandem.levels ≤ 6
  pub within : at ≤ 83 + 44 * given_among st.sup.tandem.levels + 77 * frames + 4 * st.sup.tandem.base.seconds
