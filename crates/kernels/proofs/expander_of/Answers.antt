-- `kernels::expander_of` meets its contract: the operations are the definition's.
use lib.Ieee.{of_bits, round}
use Rattle.kernels.specs.Tuning.{expander_from}
use Rattle.kernels.proofs.expander_of.Goals as goal

pub returns : goal.returns
unfolding expander_from of_bits round
returns c = cc
