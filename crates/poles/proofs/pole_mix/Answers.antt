-- `poles::pole_mix` meets its contract: the operations are the definition's.
use Rattle.poles.specs.Poles.{pole_mix}
use Rattle.poles.proofs.pole_mix.Goals as goal

pub returns : goal.returns
unfolding pole_mix
returns c = cc
