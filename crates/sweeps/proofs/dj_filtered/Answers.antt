-- `sweeps::dj_filtered` meets its contract: the operations are the definition's.
use mathlib.Core.Path.{refl}
use Rattle.sweeps.specs.Sweeps.{dj_filtered}
use Rattle.sweeps.proofs.dj_filtered.Goals as goal

pub returns : goal.returns
unfolding dj_filtered
returns c = refl
