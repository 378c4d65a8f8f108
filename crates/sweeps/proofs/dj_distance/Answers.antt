-- `sweeps::dj_distance` meets its contract: the operations are the definition's.
use lib.Ieee.{of_bits, round}
use Rattle.sweeps.specs.Sweeps.{dj_distance}
use Rattle.sweeps.proofs.dj_distance.Goals as goal

pub returns : goal.returns
unfolding dj_distance of_bits round
returns c = rw (c.min.ensures, c.max.ensures)
