-- `kernels::tuning::three_numbers` meets its contract: the operations are the definition's.
use lib.Ieee.{of_bits, round}
use Rattle.kernels.specs.Tuning.{three_numbers}
use Rattle.kernels.proofs.tuning.three_numbers.Goals as goal

pub returns : goal.returns
unfolding three_numbers of_bits round
returns c = cc
