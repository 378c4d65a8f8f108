-- `sweeps::diffuser_weight` meets its contract: the operations are the definition's, and a stage's number is an f32 exactly.
use lib.Ieee.{of_bits, of_int, round}
use Rattle.sweeps.specs.Sweeps.{diffuser_weight}
use Rattle.sweeps.proofs.diffuser_weight.Goals as goal

pub returns : goal.returns
unfolding diffuser_weight of_bits of_int round
returns c = rw (c.max.ensures, c.abs.ensures)
