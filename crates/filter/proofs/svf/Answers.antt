-- `filter::svf` meets its contract: the operations are the definition's.
use mathlib.Core.Path.{refl}
use lib.Ieee.{of_bits, round}
use Rattle.filter.specs.Filter.{svf_of}
use Rattle.filter.proofs.svf.Goals as goal

pub returns : goal.returns
unfolding svf_of of_bits round
returns c = refl
