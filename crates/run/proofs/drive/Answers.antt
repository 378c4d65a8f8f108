-- `run::drive` meets its contract: the operations are the definition's.
use Rattle.run.specs.Run.{driven_of}
use Rattle.run.proofs.drive.Goals as goal

pub returns : goal.returns
unfolding driven_of
returns c = cc
