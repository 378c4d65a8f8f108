-- `ladders::transistor_with` meets its contract: the operations are the definition's.
use mathlib.Core.Path.{refl}
use lib.Ieee.{of_bits, round}
use Rattle.ladders.specs.Ladders.{transistor_with}
use Rattle.ladders.proofs.transistor_with.Goals as goal

pub returns : goal.returns
unfolding transistor_with of_bits round
returns c = refl
