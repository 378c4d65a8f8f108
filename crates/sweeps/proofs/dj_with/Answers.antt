-- `sweeps::dj_with` meets its contract: the operations are the definition's.
use lib.Ieee.{of_bits, round}
use Rattle.sweeps.specs.Sweeps.{dj_with}
use Rattle.sweeps.proofs.dj_with.Goals as goal

pub returns : goal.returns
unfolding dj_with of_bits round
returns c = rw c.dj_k.ensures
