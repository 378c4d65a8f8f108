-- `poles::near_section` meets its contract: the near face begins at 0.
use mathlib.Core.Path.{◌∙◌}
use Rattle.poles.specs.Numbers.{numbers_near}
use Rattle.poles.proofs.near_section.Goals as goal

pub returns : goal.returns
returns c = let a = c.args in c.face_section.ensures ∙ numbers_near a.sections.now a.pad a.j
