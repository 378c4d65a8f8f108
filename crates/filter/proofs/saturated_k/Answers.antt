-- `filter::saturated_k` meets its contract: the operations are the definition's.
use Rattle.filter.specs.Filter.{saturated_k}
use Rattle.filter.proofs.saturated_k.Goals as goal

pub returns : goal.returns
unfolding saturated_k
returns c = rw c.saturation_gain.ensures
