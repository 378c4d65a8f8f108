-- `expanders::band_step` meets its contract: each call gives its part of the definition.
use Rattle.expanders.specs.Expanders.{band_step}
use Rattle.expanders.proofs.band_step.Goals as goal

pub returns : goal.returns
unfolding band_step
returns c = rw (c.band_mix.ensures, c.tapped.ensures.taps, c.tapped.ensures.states)
