-- `run_channel` meets its contract: its loop goes through the voices by `Swept`, and each turn is the contract of `run_next`.
use Prim.Native.Nat.{◌-◌}
use Rattle.slots.specs.Slots.{block_run, slot_in, Swept}
use Rattle.pairs.proofs.run_channel.Given as goal

abbrev pub invariant-loop-v : goal.invariant-loop-v
invariant-loop-v l =
    Swept (slot_in l.e l.sections l.targets l.by.pitch.now l.by.x.now l.by.y.now l.channel) l.e.voices
    (block_run l.initial.records l.initial.delay l.initial.audio l.initial.counts) l.v
    (block_run l.records l.delay l.audio l.counts)

abbrev pub decreases-loop-v : goal.decreases-loop-v
decreases-loop-v l = l.e.voices - l.v
