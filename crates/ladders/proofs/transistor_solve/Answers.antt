-- `ladders::transistor_solve` meets its contract: the operations are the definition's.
use lib.Ieee.{of_bits, round}
use Rattle.ladders.specs.Ladders.{transistor_solve}
use Rattle.ladders.proofs.transistor_solve.Goals as goal

pub returns : goal.returns
unfolding transistor_solve of_bits round
returns c state e = rw e
