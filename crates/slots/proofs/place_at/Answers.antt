-- `place_at` meets its contract: a place in a row of the list is below its end.
use Rattle.std.proofs.Common.{arith}
use Rattle.parts.specs.Laws.{flat_lt}
use Rattle.slots.proofs.place_at.Goals as goal

pub returns : goal.returns
returns c = omega (arith, flat_lt c.args.rows c.args.width c.args.row c.args.column c.requires.0 c.requires.1)
