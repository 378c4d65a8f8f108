-- `kernels::tuning::band_numbers` meets its contract: the operations are the definition's.
use lib.Ieee.{of_bits, round}
use Rattle.kernels.specs.Tuning.{band_numbers}
use Rattle.kernels.proofs.tuning.band_numbers.Goals as goal

pub returns : goal.returns
unfolding band_numbers of_bits round
returns c = cc
