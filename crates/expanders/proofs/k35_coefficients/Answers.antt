-- `expanders::k35_coefficients` meets its contract: each call gives its part of the definition.
use lib.Ieee.{of_bits, round}
use Rattle.expanders.specs.Expanders.{k35_coefficients}
use Rattle.expanders.proofs.k35_coefficients.Goals as goal

pub returns : goal.returns
unfolding k35_coefficients of_bits round
returns c pitch e = rw (c.k35_with.ensures, c.unit-w.ensures, e)
