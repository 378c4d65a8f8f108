-- `terms` meets its contract: the twenty operations are the definition's.
use mathlib.Core.Path.{refl}
use Rattle.pole_zero.specs.PoleZero.{terms_of}
use Rattle.pole_zero.proofs.terms.Goals as goal

pub returns : goal.returns
unfolding terms_of
returns c = refl
