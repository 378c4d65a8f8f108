-- `rows::get_rows` meets its contract. Assumes nothing.
use native.Mathlib.Omega.{arith}
use lib.Ieee.{nan}
use Rattle.parts.specs.Flat.{tab_again, tab_done}
use Rattle.rows.specs.Asks.{restored_rows}
use Rattle.rows.proofs.get_rows.Goals as goal

pub loop-i-preserved : goal.loop-i-preserved
loop-i-preserved c = tab_again _ _ _ _ _ nan (omega arith) c.loop-i.invariant c.cell_at.ensures

pub returns : goal.returns
unfolding restored_rows
returns c = tab_done _ _ _ c.loop-i.i _ c.requires.out_len (omega arith) c.loop-i.invariant
