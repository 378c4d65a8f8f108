-- `sentivolus::design::point_of` meets its contract: each load and call gives its part of the definition.
use Rattle.sentivolus.specs.Design.{point_of}
use Rattle.sentivolus.proofs.design.point_of.Goals as goal

pub returns : goal.returns
unfolding point_of
returns c = cc
