-- `poles::between_section` meets its contract: between the sections of the two faces.
use mathlib.Core.Path.{◌∙◌}
use Rattle.points.specs.Points.{section_between}
use Rattle.poles.specs.Numbers.{numbers_between}
use Rattle.poles.proofs.between_section.Goals as goal

pub returns : goal.returns
returns c =
    let a = c.args in
    c.between.ensures
    ∙ (λ t. section_between (c.face_section-near.ensures t) (c.face_section-far.ensures t) (c.unit.ensures t))
    ∙ numbers_between a.sections.now a.pad a.j
