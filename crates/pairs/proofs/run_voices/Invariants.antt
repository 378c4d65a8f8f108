-- `run_voices` meets its contract: its loop goes through the voices by `Swept`, and each turn is the contract of `run_voice`.
use Rattle.slots.specs.Slots.{block_run, Swept}
use Rattle.pairs.specs.Pairs.{voice_in}
use Rattle.pairs.proofs.run_voices.Given as goal

abbrev pub invariant-loop-v : goal.invariant-loop-v
invariant-loop-v l =
    Swept (voice_in l.e l.sections l.targets l.by.pitch.now l.by.x.now l.by.y.now) l.e.voices
    (block_run l.initial.records l.initial.delay l.initial.audio l.initial.counts) l.v
    (block_run l.records l.delay l.audio l.counts)
