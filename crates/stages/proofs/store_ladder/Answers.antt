-- `stages::store_ladder` meets its contract: the operations are the definition's.
use mathlib.Core.Path.{refl}
use Rattle.stages.specs.Stages.{ladder_states}
use Rattle.stages.proofs.store_ladder.Goals as goal

pub returns : goal.returns
unfolding ladder_states
returns c = refl
