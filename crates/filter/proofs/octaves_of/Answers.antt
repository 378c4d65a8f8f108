-- `filter::octaves_of` meets its contract: the operations are the definition's.
use mathlib.Core.Path.{refl}
use lib.Ieee.{of_bits, round}
use Rattle.filter.specs.Filter.{octaves_of}
use Rattle.filter.proofs.octaves_of.Goals as goal

pub returns : goal.returns
unfolding octaves_of of_bits round
returns c = refl
