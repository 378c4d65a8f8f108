-- `expanders::k35_den` meets its contract: the operations are the definition's.
use mathlib.Core.Path.{refl}
use lib.Ieee.{of_bits, round}
use Rattle.expanders.specs.Expanders.{k35_den}
use Rattle.expanders.proofs.k35_den.Goals as goal

pub returns : goal.returns
unfolding k35_den of_bits round
returns c = refl
