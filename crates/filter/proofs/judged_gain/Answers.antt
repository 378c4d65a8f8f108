-- `filter::judged_gain` meets its contract: the operations are the definitions'.
use Rattle.filter.specs.Filter.{gain_of}
use Rattle.filter.specs.Judged.{capped_of, judged_gain}
use Rattle.filter.proofs.judged_gain.Goals as goal

pub returns : goal.returns
unfolding judged_gain gain_of capped_of
returns c = rw (c.gain_at.ensures, c.capped_of-c.ensures)
