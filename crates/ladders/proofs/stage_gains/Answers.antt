-- `ladders::stage_gains` meets its contract: each call gives its part of the definition.
use Rattle.ladders.specs.Ladders.{stage_gains}
use Rattle.ladders.proofs.stage_gains.Goals as goal

pub returns : goal.returns
unfolding stage_gains
returns c state e =
    rw (
      c.stage_gain-4.ensures,
      c.stage_gain-3.ensures,
      c.stage_gain-2.ensures,
      c.stage_gain.ensures,
      e,
    )
