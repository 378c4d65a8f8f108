-- `run::lag` meets its contract: by the structure's mark SMOOTH.
use Rattle.run.specs.Run.{controls_after, state_after}
use Rattle.run.proofs.lag.Goals as goal

pub returns-then-not-is_smooth : goal.returns-then-not-is_smooth
unfolding controls_after state_after
returns-then-not-is_smooth c =
    let plain = c.if-not-is_smooth.true in
    (rw (← c.is_smooth.ensures, plain), rw (← c.is_smooth.ensures, plain))

pub returns : goal.returns
unfolding controls_after state_after
returns c =
    let smooth = c.if-not-is_smooth.false in
    (rw (← c.is_smooth.ensures, smooth) (cc), rw (← c.is_smooth.ensures, smooth) (cc))
