-- `poles::face_section` meets its contract: each number by `blend`'s.
use Rattle.poles.specs.Numbers.{face_section}
use Rattle.poles.proofs.face_section.Goals as goal

pub returns : goal.returns
unfolding face_section
returns c =
    rw (
      c.blend-5.ensures,
      c.term-5.ensures,
      c.blend-4.ensures,
      c.term-4.ensures,
      c.blend-3.ensures,
      c.term-3.ensures,
      c.blend-2.ensures,
      c.term-2.ensures,
      c.blend.ensures,
      c.term.ensures,
    )
