-- `ladders::acid_step` meets its contract: each call gives its part of the definition.
use Rattle.ladders.specs.Ladders.{diode_step, acid_step}
use Rattle.ladders.proofs.acid_step.Goals as goal

pub returns : goal.returns
unfolding diode_step acid_step
returns c = rw (c.diode_step.ensures, c.asym.ensures, c.diode_feedback-k.ensures)
