-- `Point::clamped` meets its contract: field by field, by the calls' contracts.
use lib.Ieee.{of_bits, round}
use Rattle.points.specs.Points.{clamped}
use Rattle.points.proofs.Point.clamped.Goals as goal

pub returns : goal.returns
unfolding clamped of_bits round
returns c = rw (c.clamp_or-2.ensures, c.clamp_or.ensures, c.clamped.ensures)
