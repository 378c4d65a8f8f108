-- `sweeps::buzz_mix` meets its contract: the operations are the definition's.
use mathlib.Core.Path.{refl}
use Rattle.sweeps.specs.Sweeps.{buzz_mix}
use Rattle.sweeps.proofs.buzz_mix.Goals as goal

pub returns : goal.returns
unfolding buzz_mix
returns c = refl
