-- `sentivolus::leaves::sentivolus_svf` meets its contract: the stage's four numbers.
use Rattle.sentivolus.specs.Design.{stage_numbers}
use Rattle.sentivolus.proofs.leaves.sentivolus_svf.Goals as goal

pub returns : goal.returns
unfolding stage_numbers
returns c = rw c.svf-s.ensures
