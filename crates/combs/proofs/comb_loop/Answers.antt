-- `combs::comb_loop` meets its contract: the operations are the definition's.
use lib.Ieee.{of_bits, round}
use Rattle.combs.specs.Combs.{comb_loop}
use Rattle.combs.proofs.comb_loop.Goals as goal

pub returns : goal.returns
unfolding comb_loop of_bits round
returns c = cc
