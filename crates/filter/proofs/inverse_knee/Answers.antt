-- `filter::inverse_knee` meets its contract: the operations are the definition's.
use lib.Ieee.{of_bits, round}
use Rattle.filter.specs.Voice.{inverse_knee}
use Rattle.filter.proofs.inverse_knee.Goals as goal

pub returns : goal.returns
unfolding inverse_knee of_bits round
returns c = rw c.exp2.ensures
