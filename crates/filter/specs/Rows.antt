-- What n equal bits in a row make of a filter, and three equal values of a STAT, from ANY state. Assumes nothing.
use Rattle.std.specs.Prelude.{ℕ, zero, suc, ◌≡◌, Bool, true, false}
use Rattle.filter.specs.declared.Filter.{Filter}
use Rattle.filter.specs.declared.Stat.{Stat}
use Rattle.filter.specs.Filter.{filter_of}
use Rattle.filter.specs.Stat.{stat_of}

-- the filter after k frames in a row with one bit
unfoldable pub fed : ℕ → Bool → ℕ → Filter → Filter
fed n bit zero f = f
fed n bit (suc k) f = filter_of (fed n bit k f) n false bit

-- n in a row with the bit 1 raise it, n with the bit 0 clear it, whatever it held
abbrev pub TakesOver : ℕ → Type 0
TakesOver n = (f : Filter) (bit : Bool) → (fed n bit n f).on ≡ bit

-- three in a row are accepted, whatever it held
pub record Accepts (s : Stat) (v : ℕ) : Type 0 where
  pub known : (stat_of (stat_of (stat_of s false v) false v) false v).known ≡ true
  pub accepted : (stat_of (stat_of (stat_of s false v) false v) false v).accepted ≡ v
