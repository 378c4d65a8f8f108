-- `steering_at` meets its contract: by the test of the mark.
use Rattle.std.proofs.Common.{refl}
use lib.Ieee.{of_bits, round}
use Rattle.slots.proofs.steering_at.Goals as goal

pub returns-else-steered : goal.returns-else-steered
unfolding of_bits round
returns-else-steered c = rw c.if-steered.false refl
