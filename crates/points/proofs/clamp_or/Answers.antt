-- `clamp_or` meets its contract: by the test for a NaN.
use Rattle.std.proofs.Common.{sym, ◌∙◌}
use Rattle.points.specs.Points.{clamp_or}
use Rattle.points.proofs.clamp_or.Goals as goal

pub returns-then-is_nan : goal.returns-then-is_nan
unfolding clamp_or
returns-then-is_nan c = rw (sym c.is_nan.ensures.value ∙ c.if-is_nan.true)

pub returns-else-is_nan : goal.returns-else-is_nan
unfolding clamp_or
returns-else-is_nan c = rw (sym c.is_nan.ensures.value ∙ c.if-is_nan.false) c.clamp.ensures
