-- `sentivolus::design::design_of` meets its contract: each state is the definition's.
use Rattle.sentivolus.specs.Design.{design_of}
use Rattle.sentivolus.proofs.design.design_of.Goals as goal

pub returns : goal.returns
unfolding design_of
returns c = cc
