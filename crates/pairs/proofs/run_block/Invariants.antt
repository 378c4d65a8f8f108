-- `run_block` meets its contract: of two channels by `run_voices`, else its loop goes through the channels by `Swept`, and each turn is the
-- contract of `run_channel`.
use Rattle.slots.specs.Slots.{block_run, channel_in, Swept}
use Rattle.pairs.proofs.run_block.Given as goal

abbrev pub invariant-loop-c : goal.invariant-loop-c
invariant-loop-c l =
    Swept (channel_in l.e l.sections l.targets l.by.pitch.now l.by.x.now l.by.y.now) l.e.channels
    (block_run l.initial.records l.initial.delay l.initial.audio l.initial.counts) l.c
    (block_run l.records l.delay l.audio l.counts)
