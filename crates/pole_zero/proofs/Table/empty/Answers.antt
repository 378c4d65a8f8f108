-- `Table::empty` meets its contract: the fields are the definition's.
use lib.Ieee.{of_bits, round}
use Rattle.pole_zero.specs.PoleZero.{empty_table}
use Rattle.pole_zero.proofs.Table.empty.Goals as goal

pub returns : goal.returns
unfolding empty_table of_bits round
returns c = rw c.gain.ensures
