-- `expanders::k35_low` meets its contract: the operations are the definition's.
use Rattle.expanders.specs.Expanders.{k35_low}
use Rattle.expanders.proofs.k35_low.Goals as goal

pub returns : goal.returns
unfolding k35_low
returns c = rw c.k35_den.ensures
