use Rattle.frame.specs.Layers.{standing_of}
use Rattle.frame.proofs.Layers.advance.Goals as goal

pub returns-clause-standing : goal.returns-clause-standing
unfolding standing_of
returns-clause-standing c =
    rw (c.line_of-line.ensures, c.step-section.ensures.stands, c.step-path.ensures.stands, c.frames_of-n.ensures)
