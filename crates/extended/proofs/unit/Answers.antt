-- `extended::unit` meets its contract: the operations are the definition's.
use lib.Ieee.{of_bits, round}
use Rattle.extended.specs.Extended.{unit_or0}
use Rattle.extended.proofs.unit.Goals as goal

pub returns : goal.returns
unfolding unit_or0 of_bits round
returns c = cc
