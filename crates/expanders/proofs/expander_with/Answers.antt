-- `expanders::expander_with` meets its contract: the operations are the definition's.
use mathlib.Core.Path.{refl}
use lib.Ieee.{of_bits, round}
use Rattle.expanders.specs.Expanders.{expander_with}
use Rattle.expanders.proofs.expander_with.Goals as goal

pub returns : goal.returns
unfolding expander_with of_bits round
returns c = refl
