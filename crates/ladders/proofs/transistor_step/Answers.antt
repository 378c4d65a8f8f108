-- `ladders::transistor_step` meets its contract: each call gives its part of the definition.
use Rattle.ladders.specs.Ladders.{transistor_step}
use Rattle.ladders.proofs.transistor_step.Goals as goal

pub returns : goal.returns
unfolding transistor_step
returns c =
    let k = c.saturation_gain.ensures in
    let s = c.stages_of-s.ensures in
    let state = c.args.state.now in
    rw (c.store_ladder.ensures, c.transistor_solve-y.ensures state s, c.stage_gains.ensures state s, k)
