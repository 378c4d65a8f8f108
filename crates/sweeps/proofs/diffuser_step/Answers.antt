-- `sweeps::diffuser_step` meets its contract. The loop's invariant: after j turns, the states, the signal and the output are
-- those of j stages.
use mathlib.Core.Path.{◌≡◌}
use native.Mathlib.Omega.{arith}
use lib.Ieee.{of_bits, round}
use Rattle.sweeps.specs.Sweeps.{diffuser_step}
use Rattle.sweeps.proofs.diffuser_step.Goals as goal

pub returns : goal.returns
unfolding diffuser_step of_bits round
returns c =
    let l = c.loop-j in
    let e : l.j ≡ 8 = omega arith in
    rw (l.invariant, e)
