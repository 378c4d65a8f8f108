-- `kernels::tuning::dj_numbers` meets its contract: the operations are the definition's.
use lib.Ieee.{of_bits, round}
use Rattle.kernels.specs.Tuning.{dj_numbers}
use Rattle.kernels.proofs.tuning.dj_numbers.Goals as goal

pub returns : goal.returns
unfolding dj_numbers of_bits round
returns c = cc
