-- `sweeps::buzz_step` meets its contract: each call gives its part of the definition.
use lib.Ieee.{of_bits, round}
use Rattle.sweeps.specs.Sweeps.{buzz_step}
use Rattle.sweeps.proofs.buzz_step.Goals as goal

pub returns : goal.returns
unfolding buzz_step of_bits round
returns c =
    let s = c.svf-s.ensures in
    let k = c.saturated_k-k.ensures in
    rw (c.buzz_mix.ensures, s, c.asym-u.ensures, k)
