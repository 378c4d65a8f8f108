-- `ladders::clean_ladder_step` meets its contract: each call gives its part of the definition.
use lib.Ieee.{of_bits, round}
use Rattle.ladders.specs.Ladders.{diode_step, clean_ladder_step}
use Rattle.ladders.proofs.clean_ladder_step.Goals as goal

pub returns : goal.returns
unfolding diode_step clean_ladder_step of_bits round
returns c = rw (c.diode_step.ensures, c.diode_feedback-k.ensures)
