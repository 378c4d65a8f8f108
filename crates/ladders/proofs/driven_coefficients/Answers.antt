-- `ladders::driven_coefficients` meets its contract: each call gives its part of the definition.
use lib.Ieee.{of_bits, round}
use Rattle.ladders.specs.Ladders.{driven_coefficients}
use Rattle.ladders.proofs.driven_coefficients.Goals as goal

pub returns : goal.returns
unfolding driven_coefficients of_bits round
returns c pitch e = rw (c.driven_with.ensures, c.soft_clip.ensures, c.exp2-drive.ensures, e)
