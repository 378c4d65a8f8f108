-- `run::store_lag` meets its contract: the operations are the definition's.
use lib.Ieee.{of_bits, round}
use Rattle.run.specs.Run.{lag_state}
use Rattle.run.proofs.store_lag.Goals as goal

pub returns : goal.returns
unfolding lag_state of_bits round
returns c = cc
