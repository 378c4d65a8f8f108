-- `ladders::diode_feedback` meets its contract: the operations are the definition's.
use Rattle.ladders.specs.Ladders.{diode_feedback}
use Rattle.ladders.proofs.diode_feedback.Goals as goal

pub returns : goal.returns
unfolding diode_feedback
returns c = rw c.saturation_gain.ensures
