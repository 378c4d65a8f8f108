-- `teeth::tap_of` meets its contract: the cells at four places, interpolated.
use Rattle.teeth.specs.Taps.{tap_of}
use Rattle.teeth.proofs.tap_of.Goals as goal

pub returns : goal.returns
unfolding tap_of
returns c = cc
