-- `PoleZeroDesign::gain` meets its contract: the operations are the definition's.
use lib.Ieee.{of_bits, round}
use Rattle.pole_zero.specs.PoleZero.{design_gain}
use Rattle.pole_zero.proofs.PoleZeroDesign.gain.Goals as goal

pub returns : goal.returns
unfolding design_gain of_bits round
returns c = rw (c.pow10.ensures, c.clamp_or.ensures)
