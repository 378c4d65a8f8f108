-- `setup_of` meets its contract: field by field. Assumes nothing.
use lib.Ieee.{of_bits, round}
use lib.Ieee.{of_int}
use Rattle.impulses.specs.Impulse.{impulse_setup}
use Rattle.impulses.proofs.setup_of.Goals as goal

pub returns : goal.returns
unfolding impulse_setup of_bits round of_int
returns c = rw (c.nearest_u32_to_f32.ensures, c.bypass_table.ensures)
