-- `PoleZeroDesign::blended_at` meets its contract: the near face's section, or, with three axes, the section between both faces'.
use Rattle.pole_zero.specs.PoleZero.{blended_at}
use Rattle.pole_zero.proofs.PoleZeroDesign.blended_at.Goals as goal

pub returns-then-self : goal.returns-then-self
unfolding blended_at
returns-then-self c =
    rw (c.between.ensures, c.blended.ensures, c.bilinear-then-self.ensures, c.blended-near.ensures, c.bilinear.ensures, c.if-self.true)

pub returns-else-self : goal.returns-else-self
unfolding blended_at
returns-else-self c = rw (c.blended-near.ensures, c.bilinear.ensures, c.if-self.false)
