-- `poles::judged` meets its contract: each call gives its part of the definition.
use Rattle.filter.specs.Judged.{capped_at}
use Rattle.poles.specs.Numbers.{judged_of}
use Rattle.poles.proofs.judged.Goals as goal

pub returns : goal.returns
unfolding judged_of capped_at
returns c = rw (c.once.ensures, c.gain_at.ensures, c.capped_at-c.ensures)
