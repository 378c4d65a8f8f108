-- `extended::is_smooth` meets its contract: by the codes that the pattern names.
use Rattle.std.proofs.Common.{rules}
use Rattle.extended.specs.Extended.{smooth_mark}
use Rattle.extended.proofs.is_smooth.Goals as goal

pub returns-in-4-to-6 : goal.returns-in-4-to-6
unfolding smooth_mark
returns-in-4-to-6 c = search rules

pub returns-in_default : goal.returns-in_default
unfolding smooth_mark
returns-in_default c = search rules

pub returns-in-4-to-6-2 : goal.returns-in-4-to-6-2
unfolding smooth_mark
returns-in-4-to-6-2 c = search rules

pub returns-in_default-2 : goal.returns-in_default-2
unfolding smooth_mark
returns-in_default-2 c = search rules
