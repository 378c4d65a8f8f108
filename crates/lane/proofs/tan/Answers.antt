-- `lane::tan` meets its contract: the operations are the definition's.
use lib.Ieee.{of_bits, round}
use Rattle.lane.specs.Lane.{tan_of}
use Rattle.lane.proofs.tan.Goals as goal

pub returns : goal.returns
unfolding tan_of of_bits round
returns c = cc
