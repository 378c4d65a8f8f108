-- `lines::rate_refused` meets its contract: the two numbers are the definition's.
use lib.Ieee.{of_bits, round}
use Rattle.lines.specs.Lines.{rate_refused}
use Rattle.lines.proofs.rate_refused.Goals as goal

pub returns : goal.returns
unfolding rate_refused of_bits round
returns c = c.is_outside.ensures
