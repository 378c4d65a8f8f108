-- `kernels::tuning::multimode_numbers` meets its contract: the operations are the definition's.
use lib.Ieee.{of_bits, round}
use Rattle.kernels.specs.Tuning.{multimode_numbers}
use Rattle.kernels.proofs.tuning.multimode_numbers.Goals as goal

pub returns : goal.returns
unfolding multimode_numbers of_bits round
returns c = cc
