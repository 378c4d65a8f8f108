-- `run::mix` meets its contract: the operations are the definition's.
use lib.Ieee.{of_bits, round}
use Rattle.run.specs.Run.{mix_of}
use Rattle.run.proofs.mix.Goals as goal

pub returns : goal.returns
unfolding mix_of of_bits round
returns c = cc
