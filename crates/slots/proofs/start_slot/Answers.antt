-- `start_slot` meets its contract: the record stored and the ring zeroed are the definition's.
use lib.Ieee.{of_bits, round}
use Rattle.slots.proofs.start_slot.Goals as goal

pub returns : goal.returns
unfolding of_bits round
returns c = (c.store_record.ensures, c.zero_ring.ensures)
