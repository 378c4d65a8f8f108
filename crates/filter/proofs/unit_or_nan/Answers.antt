-- `filter::unit_or_nan` meets its contract: the operations are the definition's.
use lib.Ieee.{of_bits, round}
use Rattle.filter.specs.Voice.{unit_or_nan}
use Rattle.filter.proofs.unit_or_nan.Goals as goal

pub returns : goal.returns
unfolding unit_or_nan of_bits round
returns c = rw c.clamp.ensures
