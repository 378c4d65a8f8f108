-- `kernels::tuning::k35_numbers` meets its contract: the operations are the definition's.
use lib.Ieee.{of_bits, round}
use Rattle.kernels.specs.Tuning.{k35_numbers}
use Rattle.kernels.proofs.tuning.k35_numbers.Goals as goal

pub returns : goal.returns
unfolding k35_numbers of_bits round
returns c = cc
