-- `filter::over_of` meets its contract: a half of what the cap gives.
use Rattle.filter.specs.Judged.{capped_of}
use Rattle.filter.proofs.over_of.Goals as goal

pub returns : goal.returns
unfolding capped_of
returns c = rw c.capped_of.ensures
