-- `expanders::k35_feedback` meets its contract: the operations are the definition's.
use Rattle.expanders.specs.Expanders.{k35_feedback}
use Rattle.expanders.proofs.k35_feedback.Goals as goal

pub returns : goal.returns
unfolding k35_feedback
returns c = rw c.saturation_gain.ensures
