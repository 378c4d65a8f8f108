-- `poles::blend` meets its contract: the operations are the definition's.
use Rattle.poles.specs.Poles.{blend_of}
use Rattle.poles.proofs.blend.Goals as goal

pub returns : goal.returns
unfolding blend_of
returns c = cc
