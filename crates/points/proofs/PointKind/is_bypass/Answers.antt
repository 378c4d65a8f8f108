-- `PointKind::is_bypass` meets its contract: the first arm is a bypass, the second any other kind.
use borrow.Author.Rules.{rules}
use Rattle.points.specs.Points.{is_bypass}
use Rattle.points.proofs.PointKind.is_bypass.Goals as goal

pub returns-in-Bypass : goal.returns-in-Bypass
unfolding is_bypass
returns-in-Bypass c = cc

pub returns-in_default : goal.returns-in_default
unfolding is_bypass
returns-in_default c = search rules
