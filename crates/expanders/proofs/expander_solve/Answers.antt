-- `expanders::expander_solve` meets its contract: the operations are the definition's.
use mathlib.Core.Path.{refl}
use lib.Ieee.{of_bits, round}
use Rattle.expanders.specs.Expanders.{expander_solve}
use Rattle.expanders.proofs.expander_solve.Goals as goal

pub returns : goal.returns
unfolding expander_solve of_bits round
returns c = refl
