-- `filter::nan_knob` meets its contract: by the five tests.
use Rattle.std.proofs.Common.{rules}
use Rattle.filter.specs.Voice.{nan_knob}
use Rattle.filter.proofs.nan_knob.Goals as goal

pub returns-then-is_nan-4 : goal.returns-then-is_nan-4
unfolding nan_knob
returns-then-is_nan-4 c = search rules

pub returns-else-is_nan-4 : goal.returns-else-is_nan-4
unfolding nan_knob
returns-else-is_nan-4 c = search rules
