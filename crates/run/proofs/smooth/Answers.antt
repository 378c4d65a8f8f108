-- `run::smooth` meets its contract: the operations are the definition's.
use Rattle.run.specs.Run.{smooth_of, glide}
use mathlib.Core.Path.{refl}
use Rattle.run.proofs.smooth.Goals as goal

pub returns : goal.returns
unfolding smooth_of glide
returns c = refl
