-- `ladders::acid_with` meets its contract: the operations are the definition's.
use lib.Ieee.{of_bits, round}
use Rattle.ladders.specs.Ladders.{acid_with, clean_ladder_with}
use Rattle.ladders.proofs.acid_with.Goals as goal

pub returns : goal.returns
unfolding acid_with clean_ladder_with of_bits round
returns c = rw c.clean_ladder_with.ensures
