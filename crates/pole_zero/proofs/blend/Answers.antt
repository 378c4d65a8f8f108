-- `blend` meets its contract: the four indices are below 20, and the operations are the definition's.
use mathlib.Core.Path.{refl}
use Rattle.pole_zero.specs.PoleZero.{blend}
use Rattle.pole_zero.proofs.blend.Goals as goal

pub returns : goal.returns
unfolding blend
returns c = refl
