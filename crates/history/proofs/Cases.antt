-- "Frames to be proved together", by computation. Assumes nothing.
use Rattle.history.specs.Cases.{all_hold, FramesTogether}

pub frames_together : FramesTogether
unfolding all_hold
frames_together = tt
