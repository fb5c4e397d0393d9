-- What is proved of the bay of a supervisor in its ranges: what is done in its bytes is what the definitions do to the levels, and what is read of a level
-- there is what they tell of it. Assumes nothing.
use Rattle.std.specs.Prelude.{◌≡◌, Bool, true, List, ℕ, length}
use Rattle.alignment.specs.declared.Multi.{Multi}
use Rattle.settings.specs.declared.Options.{Options}
use Rattle.supervisor.specs.declared.Supervisor.{Supervisor}
use Rattle.tandem.specs.Levels.{given_level, framed_levels, marked_levels, level_figures, level_at, placed_at}
use Rattle.tandem.specs.Tandem.{fresh_tandem, level_shown, level_traced}
use Rattle.tandem.specs.declared.Tandem.{Tandem}
use Rattle.bay.specs.Bay.{bay_sound, blank_bay, gave_in, framed_in, MarkAt, given_in, stands_in, traced_in}
use Rattle.bays.specs.Image.{bay_bytes}

-- the last 1760 bytes of a supervisor
abbrev pub bay_of : Tandem → List ℕ
bay_of t = bay_bytes t.flags t.levels

-- with no level provisioned, over whatever bytes lay there
abbrev pub LaidFresh : Type 0
LaidFresh = (b : List ℕ) (s : Supervisor) → length b ≡ 1760 → blank_bay b ≡ bay_of (fresh_tandem s)

-- by the contracts of `is_bay`, `give_at`, `frame_at`, `mark_at`, `given_at`, `stands_at` and `trace_at`
pub record InBay (t : Tandem) : Type 0 where
  pub sound : bay_sound (bay_of t) ≡ true
  pub given : (n : ℕ) (p : Options) → gave_in (bay_of t) n p ≡ bay_bytes t.flags (placed_at t.levels n (given_level p))
  pub framed : (flags : ℕ) (ssf : Bool) (m : Multi) (overhead counts : List ℕ)
      → framed_in (bay_of t) flags ssf m overhead counts ≡ bay_bytes flags (framed_levels t.levels ssf m overhead counts)
  pub marked : (r x : List ℕ) → MarkAt (bay_of t) r x → (r ≡ level_figures t.levels) × (x ≡ bay_bytes t.flags (marked_levels t.levels))
  pub provisioned : (n : ℕ) → given_in (bay_of t) n ≡ (level_at t.levels n).given
  pub stands : (n : ℕ) (ssf : Bool) → stands_in (bay_of t) n ssf ≡ level_shown (level_at t.levels n) ssf
  pub traced : (n : ℕ) → traced_in (bay_of t) n ≡ level_traced t n
