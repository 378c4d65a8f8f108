-- `expanders::expander_taps` meets its contract: each call gives its part of the definition.
use Rattle.expanders.specs.Expanders.{expander_taps}
use Rattle.expanders.proofs.expander_taps.Goals as goal

pub returns : goal.returns
unfolding expander_taps
returns c = rw (c.expander_solve.ensures, c.saturation_gain.ensures)
