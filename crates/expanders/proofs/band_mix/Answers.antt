-- `expanders::band_mix` meets its contract: the operations are the definition's.
use mathlib.Core.Path.{refl}
use lib.Ieee.{of_bits, round}
use Rattle.expanders.specs.Expanders.{band_mix}
use Rattle.expanders.proofs.band_mix.Goals as goal

pub returns : goal.returns
unfolding band_mix of_bits round
returns c = refl
