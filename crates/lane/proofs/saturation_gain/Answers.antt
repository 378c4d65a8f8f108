-- `lane::saturation_gain` meets its contract: the operations are the definition's.
use lib.Ieee.{of_bits, round}
use Rattle.lane.specs.Lane.{saturation_gain}
use Rattle.lane.proofs.saturation_gain.Goals as goal

pub returns : goal.returns
unfolding saturation_gain of_bits round
returns c = cc
