-- `kernels::tuning::driven_at` meets its contract: each call gives its part of the definition.
use mathlib.Core.Path.{ap}
use mathlib.Core.List.{List, [], ◌∷◌}
use lib.Ieee.{Float, of_bits, round}
use Rattle.lane.specs.Floats.{◌‼◌, zero}
use Rattle.filter.specs.declared.JudgedGain.{JudgedGain}
use Rattle.filter.specs.Judged.{judged_gain}
use Rattle.kernels.proofs.tuning.driven_at.Goals as goal

pub returns : goal.returns
unfolding judged_gain of_bits round
returns c =
    let gain = c.judged_gain-c.ensures in
    let a = c.args in
    let list : JudgedGain → List Float
    = λ x. x.g ∷ a.tuning.now ‼ 1 ∷ a.tuning.now ‼ 2 ∷ zero ∷ zero ∷ zero ∷ zero ∷ zero ∷ a.pitch.0 ∷ a.character ∷ [] in
    (ap list gain, rw (c.once.ensures, gain))
