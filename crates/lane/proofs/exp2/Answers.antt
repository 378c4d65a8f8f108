-- `lane::exp2` meets its contract: the operations are the definition's.
use lib.Ieee.{of_bits, round}
use Rattle.lane.specs.Lane.{exp2_of}
use Rattle.lane.proofs.exp2.Goals as goal

pub returns : goal.returns
unfolding exp2_of of_bits round
returns c = cc
