-- `with_section` meets its contract: the terms stored in the near face, and, with three axes, in the far one.
use Rattle.pole_zero.specs.PoleZero.{with_section}
use Rattle.pole_zero.proofs.with_section.Goals as goal

pub returns-then-design : goal.returns-then-design
unfolding with_section
returns-then-design c =
    rw (c.store.ensures, c.bilinear-then-design.ensures, c.store-s.ensures, c.bilinear.ensures, c.if-design.true)

pub returns-else-design : goal.returns-else-design
unfolding with_section
returns-else-design c = rw (c.store-s.ensures, c.bilinear.ensures, c.if-design.false)
