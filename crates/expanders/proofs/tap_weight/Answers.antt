-- `expanders::tap_weight` meets its contract: the operations are the definition's.
use mathlib.Core.Path.{refl}
use Rattle.expanders.specs.Expanders.{tap_weight}
use Rattle.expanders.proofs.tap_weight.Goals as goal

pub returns : goal.returns
unfolding tap_weight
returns c = refl
