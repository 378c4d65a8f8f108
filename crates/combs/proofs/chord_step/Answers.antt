-- `combs::chord_step` meets its contract: the mean is that of the taps which the plan reads.
use Rattle.combs.specs.Combs.{chord_step}
use Rattle.combs.proofs.chord_step.Goals as goal

pub returns : goal.returns
unfolding chord_step
returns c = rw (← c.read_planned-mean.ensures.mean_is) c.comb_end.ensures
