-- `filter::gain_at` meets its contract: the operations are the definition's.
use lib.Ieee.{of_bits, round}
use Rattle.filter.specs.Filter.{gain_at}
use Rattle.filter.proofs.gain_at.Goals as goal

pub returns : goal.returns
unfolding gain_at of_bits round
returns c = rw c.tan.ensures
