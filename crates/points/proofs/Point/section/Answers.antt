-- `Point::section` meets its contract: the operations are the definition's.
use lib.Ieee.{of_bits, round}
use Rattle.points.specs.Points.{section_of}
use Rattle.points.proofs.Point.section.Goals as goal

pub returns : goal.returns
unfolding section_of of_bits round
returns c = rw (c.mix.ensures, c.log2.ensures, c.clamped-p.ensures)
