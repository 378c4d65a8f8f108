-- `load_smoothed` meets its contract: eleven numbers, of which the last is replaced.
use Rattle.std.proofs.Common.{◌+◌, List, drop, set, ap, ◌∙◌, arith, length-drop}
use lib.Ieee.{Float}
use Rattle.lane.specs.Floats.{◌‼◌}
use Rattle.voices.specs.Calls.{record_z}
use Rattle.slots.specs.Records.{last_replaced}
use Rattle.slots.proofs.load_smoothed.Goals as goal

pub returns : goal.returns
returns c =
    let a = c.args in
    ap (λ (l : List Float). set l 10 (a.list.now ‼ (a.at + record_z))) c.load-into.ensures
    ∙ last_replaced (drop a.at a.list.now) (simp length-drop (omega (arith, c.requires))) _
