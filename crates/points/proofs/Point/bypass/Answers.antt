-- `Point::bypass` meets its contract: the fields are the definition's.
use lib.Ieee.{of_bits, round}
use Rattle.points.proofs.Point.bypass.Goals as goal

pub returns : goal.returns
unfolding of_bits round
returns c = cc
