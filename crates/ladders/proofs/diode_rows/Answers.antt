-- `ladders::diode_rows` meets its contract: the operations are the definition's.
use mathlib.Core.Path.{refl}
use lib.Ieee.{of_bits, round}
use Rattle.ladders.specs.Ladders.{diode_rows}
use Rattle.ladders.proofs.diode_rows.Goals as goal

pub returns : goal.returns
unfolding diode_rows of_bits round
returns c = refl
