-- `kernels::tuning::driven_numbers` meets its contract: the operations are the definition's.
use lib.Ieee.{of_bits, round}
use Rattle.kernels.specs.Tuning.{driven_numbers}
use Rattle.kernels.proofs.tuning.driven_numbers.Goals as goal

pub returns : goal.returns
unfolding driven_numbers of_bits round
returns c = cc
