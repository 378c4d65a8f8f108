-- `KeptPlan::unset` meets its contract: a ratio that is NaN keeps nothing.
use mathlib.Core.Path.{refl}
use mathlib.Core.Bool.{true≢false}
use lib.Ieee.{is_nan, of_bits}
use Rattle.kernels.proofs.tuning.KeptPlan.unset.Goals as goal

pub returns : goal.returns
unfolding is_nan of_bits
returns c len chord = record { widths = record { cells = refl; fractions = refl }; planned = λ h. absurd (true≢false h) }
