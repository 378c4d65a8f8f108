-- `ladders::driven_with` meets its contract: the operations are the definition's.
use lib.Ieee.{of_bits, round}
use Rattle.ladders.specs.Ladders.{driven_with, transistor_with}
use Rattle.ladders.proofs.driven_with.Goals as goal

pub returns : goal.returns
unfolding driven_with transistor_with of_bits round
returns c = rw c.transistor_with.ensures
