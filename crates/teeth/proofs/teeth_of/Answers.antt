-- `teeth::teeth_of` meets its contract: the definition's minimum.
use Rattle.teeth.specs.Teeth.{teeth_of}
use Rattle.teeth.proofs.teeth_of.Goals as goal

pub returns : goal.returns
unfolding teeth_of
returns c = c.min.ensures
