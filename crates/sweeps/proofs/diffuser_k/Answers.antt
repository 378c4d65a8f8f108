-- `sweeps::diffuser_k` meets its contract: the operations are the definition's.
use mathlib.Core.Path.{refl}
use lib.Ieee.{of_bits, round}
use Rattle.sweeps.specs.Sweeps.{diffuser_k}
use Rattle.sweeps.proofs.diffuser_k.Goals as goal

pub returns : goal.returns
unfolding diffuser_k of_bits round
returns c = refl
