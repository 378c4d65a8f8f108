-- `filter::morph` meets its contract: by the test for a NaN.
use Rattle.std.proofs.Common.{sym, ◌∙◌}
use lib.Ieee.{of_bits, round}
use Rattle.filter.specs.Voice.{morph_of}
use Rattle.filter.proofs.morph.Goals as goal

pub returns-then-is_nan : goal.returns-then-is_nan
unfolding morph_of of_bits round
returns-then-is_nan c = rw (sym c.is_nan.ensures.value ∙ c.if-is_nan.true)

pub returns-else-is_nan : goal.returns-else-is_nan
unfolding morph_of of_bits round
returns-else-is_nan c = rw (sym c.is_nan.ensures.value ∙ c.if-is_nan.false) c.unit_or_nan.ensures
