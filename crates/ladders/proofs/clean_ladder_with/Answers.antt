-- `ladders::clean_ladder_with` meets its contract: the operations are the definition's.
use mathlib.Core.Path.{refl}
use lib.Ieee.{of_bits, round}
use Rattle.ladders.specs.Ladders.{clean_ladder_with}
use Rattle.ladders.proofs.clean_ladder_with.Goals as goal

pub returns : goal.returns
unfolding clean_ladder_with of_bits round
returns c = refl
