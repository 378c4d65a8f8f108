-- `expanders::multimode_step` meets its contract: each call gives its part of the definition.
use Rattle.expanders.specs.Expanders.{multimode_step}
use Rattle.expanders.proofs.multimode_step.Goals as goal

pub returns : goal.returns
unfolding multimode_step
returns c = rw (c.multimode_mix.ensures, c.tapped.ensures.taps, c.tapped.ensures.states)
