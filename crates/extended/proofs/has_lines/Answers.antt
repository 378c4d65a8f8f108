-- `extended::has_lines` meets its contract: by the codes that the pattern names.
use Rattle.std.proofs.Common.{rules}
use Rattle.extended.specs.Extended.{lines_mark}
use Rattle.extended.proofs.has_lines.Goals as goal

pub returns-in-9 : goal.returns-in-9
unfolding lines_mark
returns-in-9 c = search rules

pub returns-in_default : goal.returns-in_default
unfolding lines_mark
returns-in_default c = search rules
