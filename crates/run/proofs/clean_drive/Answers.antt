-- `run::clean_drive` meets its contract: the operations are the definition's.
use lib.Ieee.{of_bits, round}
use Rattle.run.specs.Run.{clean_drive}
use Rattle.run.proofs.clean_drive.Goals as goal

pub returns : goal.returns
unfolding clean_drive of_bits round
returns c = cc
