-- `sweeps::dj_k` meets its contract: the operations are the definition's.
use mathlib.Core.Path.{refl}
use lib.Ieee.{of_bits, round}
use Rattle.sweeps.specs.Sweeps.{dj_k}
use Rattle.sweeps.proofs.dj_k.Goals as goal

pub returns : goal.returns
unfolding dj_k of_bits round
returns c = refl
