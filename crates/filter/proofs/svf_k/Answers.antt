-- `filter::svf_k` meets its contract: the operations are the definition's.
use lib.Ieee.{of_bits, round}
use Rattle.filter.specs.Filter.{svf_k}
use Rattle.filter.proofs.svf_k.Goals as goal

pub returns : goal.returns
unfolding svf_k of_bits round
returns c = rw c.max.ensures
