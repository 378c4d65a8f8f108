-- `blended` meets its contract: each value by `blend`'s.
use Rattle.pole_zero.specs.PoleZero.{blended}
use Rattle.pole_zero.proofs.blended.Goals as goal

pub returns : goal.returns
unfolding blended
returns c =
    rw (
      c.blend-5.ensures,
      c.blend-4.ensures,
      c.blend-3.ensures,
      c.blend-2.ensures,
      c.blend.ensures,
    )
