-- `root` meets its contract: what it calls is whole by itself. Assumes nothing.
use Rattle.std.proofs.Common.{rules}
use Rattle.sqrt.proofs.Cases.{nan_stays}
use Rattle.sqrt.proofs.root.Goals as goal

pub returns-then-is_nan : goal.returns-then-is_nan
returns-then-is_nan c = nan_stays c.args.x (search rules)
