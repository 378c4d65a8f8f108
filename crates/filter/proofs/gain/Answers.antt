-- `filter::gain` meets its contract: a half of the gain with its mark.
use Rattle.filter.specs.Judged.{judged_gain}
use Rattle.filter.proofs.gain.Goals as goal

pub returns : goal.returns
unfolding judged_gain
returns c = rw c.judged_gain.ensures
