-- `sentivolus::design::sentivolus_point` meets its contract: the point's section.
use Rattle.sentivolus.proofs.design.sentivolus_point.Goals as goal

pub returns : goal.returns
returns c = cc
