-- `between` meets its contract: the operations are the definition's.
use mathlib.Core.Path.{refl}
use Rattle.points.specs.Points.{between}
use Rattle.points.proofs.between.Goals as goal

pub returns : goal.returns
unfolding between
returns c = refl
