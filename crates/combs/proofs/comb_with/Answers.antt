-- `combs::comb_with` meets its contract: the feedback path is that of the settings.
use Rattle.combs.specs.Combs.{comb_with}
use Rattle.combs.proofs.comb_with.Goals as goal

pub returns : goal.returns
unfolding comb_with
returns c = rw c.feedback_path.ensures
