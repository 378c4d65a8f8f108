-- `Point`'s `default` meets its contract: a bypass at 1,000 Hz.
use lib.Ieee.{of_bits, round}
use Rattle.points.proofs.PointDefault.default.Goals as goal

pub returns : goal.returns
unfolding of_bits round
returns c = rw c.bypass.ensures
