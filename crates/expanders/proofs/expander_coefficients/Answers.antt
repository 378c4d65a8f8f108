-- `expanders::expander_coefficients` meets its contract: the operations are the definition's.
use lib.Ieee.{of_bits, round}
use Rattle.expanders.specs.Expanders.{expander_coefficients}
use Rattle.expanders.proofs.expander_coefficients.Goals as goal

pub returns : goal.returns
unfolding expander_coefficients of_bits round
returns c pitch e = rw (c.expander_with.ensures, e)
