-- `run::lagged` meets its contract: the operations are the definition's.
use Rattle.run.specs.Run.{lagged}
use Rattle.run.proofs.lagged.Goals as goal

pub returns : goal.returns
unfolding lagged
returns c = rw c.lag_share-a.ensures
