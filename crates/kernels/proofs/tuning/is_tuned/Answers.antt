-- `kernels::tuning::is_tuned` meets its contract: both numbers have the same bits.
use Rattle.kernels.proofs.tuning.is_tuned.Goals as goal

pub returns-then-same : goal.returns-then-same
returns-then-same c e =
    let pitch = c.same.ensures c.if-same.true in
    record { number = pitch.0; pitch_is = pitch.1; character_is = (c.same-then-same.ensures e).1 }
