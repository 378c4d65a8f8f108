-- `teeth::add_tap` meets its contract: the tap is stored and added.
use mathlib.Core.Path.{ap}
use lib.ListN.{set}
use lib.Ieee.{Float}
use Rattle.lane.specs.Floats.{◌⊕◌}
use Rattle.teeth.proofs.add_tap.Goals as goal

pub returns : goal.returns
returns c =
    let a = c.args in
    (ap (λ (v : Float). a.sum ⊕ v) c.tap_of-tap.ensures, ap (λ (v : Float). set a.taps.now a.tooth v) c.tap_of-tap.ensures)
