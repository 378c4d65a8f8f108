-- `combs::comb_coefficients` meets its contract: the operations are the definition's.
use lib.Ieee.{of_bits, round}
use Rattle.combs.specs.Combs.{comb_coefficients, comb_ratio}
use Rattle.combs.proofs.comb_coefficients.Goals as goal

pub returns : goal.returns
unfolding comb_coefficients comb_ratio of_bits round
returns c pitch e = rw (c.comb_with.ensures, c.exp2-octaves.ensures, e)
