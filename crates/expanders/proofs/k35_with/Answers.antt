-- `expanders::k35_with` meets its contract: the operations are the definition's.
use mathlib.Core.Path.{refl}
use lib.Ieee.{of_bits, round}
use Rattle.expanders.specs.Expanders.{k35_with}
use Rattle.expanders.proofs.k35_with.Goals as goal

pub returns : goal.returns
unfolding k35_with of_bits round
returns c = refl
