-- `PoleZeroDesign`'s `default` meets its contract: eight default states, of two axes.
use lib.Ieee.{of_bits, round}
use Rattle.pole_zero.specs.PoleZero.{default_design}
use Rattle.pole_zero.proofs.PoleZeroDesignDefault.default.Goals as goal

pub returns : goal.returns
unfolding default_design of_bits round
returns c = cc
