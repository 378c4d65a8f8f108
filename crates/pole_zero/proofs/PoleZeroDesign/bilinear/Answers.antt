-- `PoleZeroDesign::bilinear` meets its contract: the face's four states' points and their sections, by the calls' contracts.
use Rattle.pole_zero.specs.PoleZero.{bilinear_of}
use Rattle.pole_zero.proofs.PoleZeroDesign.bilinear.Goals as goal

pub returns : goal.returns
unfolding bilinear_of
returns c =
    rw (
      c.terms.ensures,
      c.section-4.ensures,
      c.point-4.ensures,
      c.section-3.ensures,
      c.point-3.ensures,
      c.section-2.ensures,
      c.point-2.ensures,
      c.section.ensures,
      c.point.ensures,
    )
