-- `lines::cell_at` meets its contract: the remainder is below the length, and the wrapped difference is the definition's.
use Rattle.std.proofs.Common.{sym, mod-lt}
use lib.Ieee.{nan}
use Rattle.parts.specs.Laws.{piece_get}
use Rattle.lines.specs.Lines.{cell_of}
use Rattle.lines.proofs.cell_at.Goals as goal

pub returns : goal.returns
unfolding cell_of
returns c = let a = c.args in sym (piece_get a.len a.slot _ a.buf.now nan (mod-lt _ c.requires.0))
