-- `lines::hermite` meets its contract: the operations are the definition's.
use lib.Ieee.{of_bits, round}
use Rattle.lines.specs.Lines.{hermite_of}
use Rattle.lines.proofs.hermite.Goals as goal

pub returns : goal.returns
unfolding hermite_of of_bits round
returns c = cc
