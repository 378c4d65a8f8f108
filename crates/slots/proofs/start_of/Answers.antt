-- `start_of` meets its contract: a piece ends within the list.
use Rattle.std.proofs.Common.{arith}
use Rattle.parts.specs.Laws.{piece_fits}
use Rattle.slots.proofs.start_of.Goals as goal

pub returns : goal.returns
returns c = omega (arith, piece_fits c.args.width c.args.s c.args.pieces c.requires.0)
