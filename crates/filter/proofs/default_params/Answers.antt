-- `filter::default_params` meets its contract: the operations are the definition's.
use mathlib.Core.Path.{refl}
use lib.Ieee.{of_bits, round}
use Rattle.filter.specs.Voice.{default_params}
use Rattle.filter.proofs.default_params.Goals as goal

pub returns : goal.returns
unfolding default_params of_bits round
returns c = refl
