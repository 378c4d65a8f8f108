-- `sweeps::dj_depth` meets its contract: the operations are the definition's.
use lib.Ieee.{of_bits, round}
use Rattle.sweeps.specs.Sweeps.{dj_depth}
use Rattle.sweeps.proofs.dj_depth.Goals as goal

pub returns : goal.returns
unfolding dj_depth of_bits round
returns c = rw (c.max.ensures, c.abs.ensures)
