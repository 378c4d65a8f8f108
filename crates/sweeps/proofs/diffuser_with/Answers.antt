-- `sweeps::diffuser_with` meets its contract: the operations are the definition's.
use lib.Ieee.{of_bits, round}
use Rattle.sweeps.specs.Sweeps.{diffuser_with}
use Rattle.sweeps.proofs.diffuser_with.Goals as goal

pub returns : goal.returns
unfolding diffuser_with of_bits round
returns c = rw c.diffuser_k-k.ensures
