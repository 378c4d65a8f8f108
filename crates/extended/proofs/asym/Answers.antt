-- `extended::asym` meets its contract: the operations are the definition's.
use lib.Ieee.{of_bits, round}
use Rattle.extended.specs.Extended.{asym_of}
use Rattle.extended.proofs.asym.Goals as goal

pub returns : goal.returns
unfolding asym_of of_bits round
returns c = cc
