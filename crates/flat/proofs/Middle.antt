-- An instance of `flat`: at the middle itself a sample of 1 stays. Assumes nothing.
use Rattle.std.specs.Prelude.{◌≡◌, refl, true}
use Rattle.std.specs.Float.Ieee.{eq, fits}
use Rattle.lane.specs.Floats.{one}
use Rattle.sweeps.specs.Sweeps.{dj_coefficients, dj_step}
use Rattle.flat.proofs.Flat.{flat}
use Rattle.flat.specs.Middle.{middle, settings, zero_states, coefficients, near, difference_finite}

pub sample_stays : eq (dj_step (dj_coefficients middle settings) zero_states one).out one ≡ true
unfolding coefficients fits
sample_stays = flat middle settings zero_states one near refl difference_finite
