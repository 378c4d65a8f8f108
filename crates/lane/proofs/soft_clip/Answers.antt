-- `lane::soft_clip` meets its contract: the operations are the definition's.
use lib.Ieee.{of_bits, round}
use Rattle.lane.specs.Lane.{soft_clip}
use Rattle.lane.proofs.soft_clip.Goals as goal

pub returns : goal.returns
unfolding soft_clip of_bits round
returns c = cc
