-- `filter::capped_of` meets its contract: the operations are the definitions'.
use Rattle.filter.specs.Filter.{ratio_of, over_of}
use Rattle.filter.specs.Judged.{capped_at, capped_of}
use Rattle.filter.proofs.capped_of.Goals as goal

pub returns : goal.returns
unfolding capped_of ratio_of over_of capped_at
returns c = rw (c.capped_at.ensures, c.octaves_of.ensures)
