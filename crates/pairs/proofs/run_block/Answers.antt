-- `run_block` meets its contract: of two channels by `run_voices`, else its loop goes through the channels by `Swept`, and each turn is the
-- contract of `run_channel`.
use mathlib.Core.Path.{◌∙◌}
use Rattle.slots.specs.Frame.{swept_end, block_is}
use Rattle.pairs.specs.Channels.{both_are_block}
use Rattle.pairs.proofs.run_block.Goals as goal

pub returns-then-e-eq2 : goal.returns-then-e-eq2
returns-then-e-eq2 c =
    let a = c.args in
    c.run_voices.ensures
    ∙ both_are_block a.e a.sections.now a.targets.now a.by.pitch.now a.by.x.now a.by.y.now a.records.now a.delay.now a.audio.now
    a.counts.now c.requires.0 c.if-e-eq2.true c.requires.1 c.requires.2
    ∙ block_is a.e a.sections.now a.targets.now a.by.pitch.now a.by.x.now a.by.y.now a.records.now a.delay.now a.audio.now
    a.counts.now

pub returns : goal.returns
returns c =
    let a = c.args in
    swept_end _ _ _ _ _ c.loop-c.invariant c.loop-c-test.false
    ∙ block_is a.e a.sections.now a.targets.now a.by.pitch.now a.by.x.now a.by.y.now a.records.now a.delay.now a.audio.now
    a.counts.now
