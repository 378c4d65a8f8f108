-- `State`'s `default` meets its contract: each of the eight points by `Point::bypass`'s.
use lib.Ieee.{mul, of_bits, round}
use Rattle.points.specs.Points.{default_state}
use Rattle.points.proofs.StateDefault.default.Goals as goal

pub returns : goal.returns
unfolding default_state mul of_bits round
returns c =
    rw (
      c.bypass-8.ensures,
      c.bypass-7.ensures,
      c.bypass-6.ensures,
      c.bypass-5.ensures,
      c.bypass-4.ensures,
      c.bypass-3.ensures,
      c.bypass-2.ensures,
      c.bypass.ensures,
    )
