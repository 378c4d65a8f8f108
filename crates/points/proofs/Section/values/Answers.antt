-- `Section::values` meets its contract: the list is the definition's.
use mathlib.Core.Path.{refl}
use Rattle.points.specs.Points.{values}
use Rattle.points.proofs.Section.values.Goals as goal

pub returns : goal.returns
unfolding values
returns c = refl
