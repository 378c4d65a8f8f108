-- `PoleZeroDesign::is_bypassed` meets its contract: the near face's test, and, with three axes, the far face's.
use Rattle.std.proofs.Common.{sym, ◌∙◌}
use Rattle.pole_zero.specs.PoleZero.{is_bypassed}
use Rattle.pole_zero.proofs.PoleZeroDesign.is_bypassed.Goals as goal

pub returns-then-not-self : goal.returns-then-not-self
unfolding is_bypassed
returns-then-not-self c = rw (sym c.face_bypassed.ensures ∙ c.if-face_bypassed.true, c.if-not-self.true)

pub returns-else-not-self : goal.returns-else-not-self
unfolding is_bypassed
returns-else-not-self c =
    rw (sym c.face_bypassed.ensures ∙ c.if-face_bypassed.true, c.if-not-self.false, c.face_bypassed-else-not-self.ensures)

pub returns-else-face_bypassed : goal.returns-else-face_bypassed
unfolding is_bypassed
returns-else-face_bypassed c = rw (sym c.face_bypassed.ensures ∙ c.if-face_bypassed.false) c.if-face_bypassed.false
