-- `run_channel` meets its contract: its loop goes through the voices by `Swept`, and each turn is the contract of `run_next`.
use native.Mathlib.Omega.{arith}
use Rattle.slots.specs.Slots.{block_run}
use Rattle.pairs.specs.Channels.{swept_more}
use Rattle.pairs.proofs.run_channel.Goals as goal

pub loop-v-preserved : goal.loop-v-preserved
loop-v-preserved c =
    let l = c.loop-v in
    let next = c.run_next-v in
    swept_more _ _ _ l.v next.result (block_run l.records l.delay l.audio l.counts) _ l.invariant next.ensures.1 next.ensures.2
    (omega arith) (omega arith) (omega arith) (omega arith)
