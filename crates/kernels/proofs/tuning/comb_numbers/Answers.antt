-- `kernels::tuning::comb_numbers` meets its contract: the operations are the definition's.
use lib.Ieee.{of_bits, round}
use Rattle.kernels.specs.Tuning.{comb_numbers}
use Rattle.kernels.proofs.tuning.comb_numbers.Goals as goal

pub returns : goal.returns
unfolding comb_numbers of_bits round
returns c = cc
