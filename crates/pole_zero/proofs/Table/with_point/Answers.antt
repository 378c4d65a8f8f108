-- `Table::with_point` meets its contract: by the test whether the point is bypassed.
use Rattle.pole_zero.specs.PoleZero.{with_point}
use Rattle.pole_zero.proofs.Table.with_point.Goals as goal

pub returns : goal.returns
unfolding with_point
returns c = rw (c.with_section.ensures, ← c.is_bypassed.ensures, c.if-is_bypassed.false)

pub returns-then-is_bypassed : goal.returns-then-is_bypassed
unfolding with_point
returns-then-is_bypassed c = rw (← c.is_bypassed.ensures, c.if-is_bypassed.true)
