-- `ladders::diode_step` meets its contract: the solution, stored.
use Rattle.ladders.specs.Ladders.{diode_step}
use Rattle.ladders.proofs.diode_step.Goals as goal

pub returns : goal.returns
unfolding diode_step
returns c = rw (c.store_ladder.ensures, c.diode_solve-y.ensures)
