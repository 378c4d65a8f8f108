-- `expanders::k35_high` meets its contract: the operations are the definition's.
use Rattle.expanders.specs.Expanders.{k35_high}
use Rattle.expanders.proofs.k35_high.Goals as goal

pub returns : goal.returns
unfolding k35_high
returns c = rw c.k35_den.ensures
