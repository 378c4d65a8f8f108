-- `Section::between` meets its contract: each number by `between`'s.
use Rattle.points.specs.Points.{section_between}
use Rattle.points.proofs.Section.between.Goals as goal

pub returns : goal.returns
unfolding section_between
returns c =
    rw (
      c.between-5.ensures,
      c.between-4.ensures,
      c.between-3.ensures,
      c.between-2.ensures,
      c.between.ensures,
    )
