-- `filter::drive_gain` meets its contract: the operations are the definition's.
use lib.Ieee.{of_bits, round}
use Rattle.filter.specs.Voice.{drive_gain}
use Rattle.filter.proofs.drive_gain.Goals as goal

pub returns : goal.returns
unfolding drive_gain of_bits round
returns c = rw c.pow10.ensures
