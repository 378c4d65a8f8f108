-- `run::lag_share` meets its contract: the operations are the definition's.
use lib.Ieee.{of_bits, round}
use Rattle.run.specs.Run.{lag_share}
use Rattle.run.proofs.lag_share.Goals as goal

pub returns : goal.returns
unfolding lag_share of_bits round
returns c = cc
