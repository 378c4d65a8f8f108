-- `PointKind::clamped` meets its contract: a bell and a free point by the calls' contracts, any other kind as it is.
use borrow.Author.Rules.{rules}
use lib.Ieee.{of_bits, round}
use Rattle.points.specs.Points.{clamped_kind}
use Rattle.points.proofs.PointKind.clamped.Goals as goal

pub returns-in-Bell : goal.returns-in-Bell
unfolding clamped_kind of_bits round
returns-in-Bell c = rw (c.in-Bell.is, c.clamp_or.ensures)

pub returns-in-Free : goal.returns-in-Free
unfolding clamped_kind of_bits round
returns-in-Free c = rw (c.in-Free.is, c.clamp_or-in-Free.ensures, c.clamp_or-in-Free-2.ensures)

pub returns-in_default : goal.returns-in_default
unfolding clamped_kind of_bits round
returns-in_default c = search rules
