-- `expanders::multimode_weights` meets its contract: the operations are the definition's.
use lib.Ieee.{of_bits, round}
use Rattle.expanders.specs.Expanders.{multimode_weights}
use Rattle.expanders.proofs.multimode_weights.Goals as goal

pub returns : goal.returns
unfolding multimode_weights of_bits round
returns c =
    rw (
      c.tap_weight-5.ensures,
      c.tap_weight-4.ensures,
      c.tap_weight-3.ensures,
      c.tap_weight-2.ensures,
      c.tap_weight.ensures,
      c.max-c.ensures,
      c.min-a.ensures,
    )
