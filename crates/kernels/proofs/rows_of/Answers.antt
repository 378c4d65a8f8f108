-- `kernels::rows_of` meets its contract: each number is read where the definition reads it.
use mathlib.Core.Path.{refl}
use Rattle.kernels.specs.Tuning.{rows_from}
use Rattle.kernels.proofs.rows_of.Goals as goal

pub returns : goal.returns
unfolding rows_from
returns c = refl
