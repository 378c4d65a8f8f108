-- `sweeps::dj_pitch` meets its contract: the operations are the definition's.
use mathlib.Core.Path.{refl}
use lib.Ieee.{of_bits, round}
use Rattle.sweeps.specs.Sweeps.{dj_pitch}
use Rattle.sweeps.proofs.dj_pitch.Goals as goal

pub returns : goal.returns
unfolding dj_pitch of_bits round
returns c = refl
