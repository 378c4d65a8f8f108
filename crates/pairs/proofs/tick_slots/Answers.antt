-- `tick_slots` meets its contract. Each turn is `tick_slot`'s contract.
use Rattle.std.proofs.Common.{◌+◌, arith}
use Rattle.pairs.specs.Ticking.{advances_slot}
use Rattle.pairs.proofs.tick_slots.Goals as goal

pub loop-s-preserved : goal.loop-s-preserved
loop-s-preserved c =
    let l = c.loop-s in
    let r = c.tick_slot in (
      r.ensures.0,
      λ b d start held. r.ensures.1 b d start (l.invariant.1 b d start held),
      advances_slot c.args.lo l.s (c.args.f + 1) c.args.runs.now l.runs r.new.runs (omega arith) l.invariant.2 r.ensures.2,
    )
