-- `ladders::diode_solve` meets its contract: the operations are the definition's.
use mathlib.Core.Path.{refl}
use lib.Ieee.{of_bits, round}
use Rattle.ladders.specs.Ladders.{diode_solve}
use Rattle.ladders.proofs.diode_solve.Goals as goal

pub returns : goal.returns
unfolding diode_solve of_bits round
returns c = refl
