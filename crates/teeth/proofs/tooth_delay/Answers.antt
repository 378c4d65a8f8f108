-- `teeth::tooth_delay` meets its contract: the operations are the definition's.
use lib.Ieee.{of_bits, round}
use Rattle.teeth.specs.Teeth.{tooth_delay}
use Rattle.teeth.proofs.tooth_delay.Goals as goal

pub returns : goal.returns
unfolding tooth_delay of_bits round
returns c = rw c.exp2.ensures
