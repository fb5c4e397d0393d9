-- Where byte 2 answers otherwise than before, worked out. Assumes nothing.
use Rattle.history.specs.Cases.{holds}
use Rattle.meaning.specs.Differs.{Differs}

pub differs : Differs
unfolding holds
differs = record { before = tt; now = tt }
