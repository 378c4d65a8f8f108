-- `lines::taps` meets its contract: four cells, interpolated.
use Rattle.lines.specs.Lines.{taps_of}
use Rattle.lines.proofs.taps.Goals as goal

pub returns : goal.returns
unfolding taps_of
returns c = cc
