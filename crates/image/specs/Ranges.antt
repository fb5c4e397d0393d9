-- What is proved of the image and of the ranges of refusal 17. Assumes nothing.
use Rattle.std.specs.Prelude.{◌≡◌, true, List, ℕ, length}
use Rattle.supervisor.specs.declared.Supervisor.{Supervisor}
use Rattle.history.specs.Ranges.{Ranged}
use Rattle.ranges.specs.Sound.{sound}
use Rattle.image.specs.Image.{load_of, bytes_of}

-- the range test of the bytes is that of the definitions: the image of a supervisor in its ranges passes, and what is read from bytes that
-- pass is in its ranges
pub record SameRanges : Type 0 where
  pub tested : (s : Supervisor) → Ranged s → sound (bytes_of s) ≡ true
  pub untested : (l : List ℕ) → sound l ≡ true → Ranged (load_of l)

-- the round trip, from a supervisor in its ranges and from sound bytes: neither has a second image
pub record RoundTrip : Type 0 where
  pub long : (s : Supervisor) → Ranged s → length (bytes_of s) ≡ 688
  pub back : (s : Supervisor) → Ranged s → load_of (bytes_of s) ≡ s
  pub stays : (l : List ℕ) → sound l ≡ true → bytes_of (load_of l) ≡ l
