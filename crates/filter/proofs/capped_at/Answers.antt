-- `filter::capped_at` meets its contract: the operations are the definitions'.
use lib.Ieee.{of_bits, round, div, mul}
use Rattle.filter.specs.Filter.{ratio_at, over_at}
use Rattle.filter.specs.Judged.{capped_at}
use Rattle.filter.proofs.capped_at.Goals as goal

pub returns : goal.returns
unfolding capped_at ratio_at over_at of_bits round div mul
returns c = rw (c.min.ensures, c.exp2.ensures)
