-- `ladders::stage_gain` meets its contract: the operations are the definition's.
use lib.Ieee.{of_bits, round}
use Rattle.ladders.specs.Ladders.{stage_gain}
use Rattle.ladders.proofs.stage_gain.Goals as goal

pub returns : goal.returns
unfolding stage_gain of_bits round
returns c = rw c.saturation_gain.ensures
