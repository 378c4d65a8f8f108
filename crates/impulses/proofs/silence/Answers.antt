-- `silence` meets its contract: an array of one number. Assumes nothing.
use lib.ListN.{length-replicate}
use Rattle.impulses.proofs.Rendering.{zeros}
use Rattle.impulses.proofs.silence.Goals as goal

pub returns : goal.returns
returns g c = (zeros _, length-replicate _ _)
