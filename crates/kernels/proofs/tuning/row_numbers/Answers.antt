-- `kernels::tuning::row_numbers` meets its contract: the operations are the definition's.
use lib.Ieee.{of_bits, round}
use Rattle.kernels.specs.Tuning.{row_numbers}
use Rattle.kernels.proofs.tuning.row_numbers.Goals as goal

pub returns : goal.returns
unfolding row_numbers of_bits round
returns c = cc
