-- `lane::pow10` meets its contract: the operations are the definition's.
use lib.Ieee.{of_bits, round}
use Rattle.lane.specs.Lane.{pow10_of}
use Rattle.lane.proofs.pow10.Goals as goal

pub returns : goal.returns
unfolding pow10_of of_bits round
returns c = cc
