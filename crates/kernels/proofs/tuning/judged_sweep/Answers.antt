-- `kernels::tuning::judged_sweep` meets its contract: each call gives its part of the definition.
use Rattle.kernels.proofs.tuning.judged_sweep.Goals as goal

pub returns : goal.returns
returns c =
    let sweep = c.dj_coefficients-c.ensures in
    (rw (c.dj_numbers.ensures, sweep.0), rw (c.once.ensures, sweep.1))
