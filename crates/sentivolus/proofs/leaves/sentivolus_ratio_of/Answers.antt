-- `sentivolus::leaves::sentivolus_ratio_of` meets its contract: the ratio's number.
use mathlib.Core.Path.{ap}
use Rattle.filter.specs.declared.Ratio.{Ratio}
use Rattle.sentivolus.proofs.leaves.sentivolus_ratio_of.Goals as goal

pub returns : goal.returns
returns c = ap (λ (r : Ratio). r.0) c.ratio_of.ensures
