-- `lane::exp` meets its contract: the operations are the definition's.
use lib.Ieee.{of_bits, round}
use Rattle.lane.specs.Lane.{exp_of}
use Rattle.lane.proofs.exp.Goals as goal

pub returns : goal.returns
unfolding exp_of of_bits round
returns c = cc
