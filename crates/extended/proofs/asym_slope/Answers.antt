-- `extended::asym_slope` meets its contract: the operations are the definition's.
use lib.Ieee.{of_bits, round}
use Rattle.extended.specs.Extended.{asym_slope}
use Rattle.extended.proofs.asym_slope.Goals as goal

pub returns : goal.returns
unfolding asym_slope of_bits round
returns c = cc
