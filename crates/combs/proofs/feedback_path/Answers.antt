-- `combs::feedback_path` meets its contract: the operations are the definition's.
use lib.Ieee.{of_bits, round}
use Rattle.combs.specs.Combs.{feedback_path}
use Rattle.combs.proofs.feedback_path.Goals as goal

pub returns : goal.returns
unfolding feedback_path of_bits round
returns c = cc
