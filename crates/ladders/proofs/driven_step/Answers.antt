-- `ladders::driven_step` meets its contract: each call gives its part of the definition.
use Rattle.ladders.specs.Ladders.{driven_step}
use Rattle.ladders.proofs.driven_step.Goals as goal

pub returns : goal.returns
unfolding driven_step
returns c = rw (c.transistor_step.ensures, c.soft_clip.ensures)
