-- `PointKind::mix` meets its contract: arm by arm, the operations are the definition's.
use lib.Ieee.{of_bits, round}
use Rattle.points.specs.Points.{section_of_kind}
use Rattle.points.proofs.PointKind.mix.Goals as goal

pub returns-in-HighPass : goal.returns-in-HighPass
unfolding section_of_kind of_bits round
returns-in-HighPass c = rw (c.in-HighPass.is, c.new.ensures)

pub returns-in-LowPass : goal.returns-in-LowPass
unfolding section_of_kind of_bits round
returns-in-LowPass c = rw (c.in-LowPass.is, c.new-in-LowPass.ensures)

pub returns-in-Bypass : goal.returns-in-Bypass
unfolding section_of_kind of_bits round
returns-in-Bypass c = rw (c.in-Bypass.is, c.new-in-Bypass.ensures)

pub returns-in-AllPass : goal.returns-in-AllPass
unfolding section_of_kind of_bits round
returns-in-AllPass c = rw (c.in-AllPass.is, c.new-in-AllPass.ensures)

pub returns-in-BandPass : goal.returns-in-BandPass
unfolding section_of_kind of_bits round
returns-in-BandPass c = rw (c.in-BandPass.is, c.new-in-BandPass.ensures)

pub returns-in-Notch : goal.returns-in-Notch
unfolding section_of_kind of_bits round
returns-in-Notch c = rw (c.in-Notch.is, c.new-in-Notch.ensures)

pub returns-in-Bell : goal.returns-in-Bell
unfolding section_of_kind of_bits round
returns-in-Bell c = rw (c.in-Bell.is, c.new-in-Bell.ensures, c.pow10-a.ensures)

pub returns-in-Free : goal.returns-in-Free
unfolding section_of_kind of_bits round
returns-in-Free c = rw (c.in-Free.is, c.new-in-Free.ensures, c.max-scale.ensures)
