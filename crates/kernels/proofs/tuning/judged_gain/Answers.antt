-- `kernels::tuning::judged_gain` meets its contract: each call gives its part of the definition.
use mathlib.Core.Path.{ap}
use Rattle.filter.specs.declared.JudgedGain.{JudgedGain}
use Rattle.filter.specs.Judged.{judged_gain}
use Rattle.kernels.proofs.tuning.judged_gain.Goals as goal

pub returns : goal.returns
unfolding judged_gain
returns c =
    let gain = c.judged_gain-c.ensures in (
      c.gain_numbers.ensures c.args.pitch (ap (λ (x : JudgedGain). x.g) gain),
      rw (c.once.ensures, gain),
    )
