-- `KeptNumbers::unset` meets its contract: a key that is NaN keeps nothing.
use mathlib.Core.Bool.{true≢false}
use lib.Ieee.{is_nan, of_bits}
use Rattle.kernels.specs.Promises.{Kept, KeptSections}
use Rattle.kernels.proofs.tuning.KeptNumbers.unset.Goals as goal

pub returns-clause-tuning : goal.returns-clause-tuning
unfolding Kept is_nan of_bits
returns-clause-tuning c code reference chord h = absurd (true≢false h)

pub returns-clause-sections : goal.returns-clause-sections
unfolding KeptSections is_nan of_bits
returns-clause-sections c code table reference h = absurd (true≢false h)
