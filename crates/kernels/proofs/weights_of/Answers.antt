-- `kernels::weights_of` meets its contract: the operations are the definition's.
use lib.Ieee.{of_bits, round}
use Rattle.kernels.specs.Tuning.{weights_from}
use Rattle.kernels.proofs.weights_of.Goals as goal

pub returns : goal.returns
unfolding weights_from of_bits round
returns c = cc
