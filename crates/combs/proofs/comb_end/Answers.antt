-- `combs::comb_end` meets its contract: through a good view the write is that of the slot's ring.
use mathlib.Core.Path.{◌∙◌}
use lib.Ieee.{of_bits, round}
use Rattle.lines.proofs.Laws.{write_good}
use Rattle.combs.specs.Combs.{comb_end}
use Rattle.combs.proofs.comb_end.Goals as goal

pub returns : goal.returns
unfolding comb_end of_bits round
returns c =
    let a = c.args in
    let y = c.comb_loop-y in
    let written = write_good a.delay.now a.at.len a.at.cursor a.at.slot y.result c.requires in
    record { sample = rw y.ensures; cells = rw (← y.ensures) (c.write_through.ensures ∙ written) }
