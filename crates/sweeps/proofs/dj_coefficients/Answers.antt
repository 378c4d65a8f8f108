-- `sweeps::dj_coefficients` meets its contract: the operations are the definitions'.
use lib.Ieee.{of_bits, round}
use Rattle.filter.specs.Judged.{judged_gain}
use Rattle.sweeps.specs.Sweeps.{dj_coefficients, dj_over}
use Rattle.sweeps.proofs.dj_coefficients.Goals as goal

pub returns : goal.returns
unfolding dj_coefficients dj_over judged_gain of_bits round
returns c = (
  rw (
    c.dj_with.ensures,
    c.min.ensures,
    c.judged_gain-gain.ensures,
    c.dj_pitch.ensures,
    c.dj_depth-u.ensures,
    c.unit-low_side.ensures,
    c.dj_distance-d.ensures,
  ),
  rw (
    c.judged_gain-gain.ensures,
    c.dj_pitch.ensures,
    c.dj_depth-u.ensures,
    c.unit-low_side.ensures,
    c.dj_distance-d.ensures,
  ),
)
