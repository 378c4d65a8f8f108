-- `run_span` meets its contract. Each turn is `tick_slots`' contract.
use Rattle.std.proofs.Common.{◌+◌, arith}
use Rattle.pairs.specs.Ticking.{advances_frame}
use Rattle.pairs.proofs.run_span.Goals as goal

pub loop-f-preserved : goal.loop-f-preserved
loop-f-preserved c =
    let l = c.loop-f in
    let r = c.tick_slots in (
      r.ensures.0,
      λ b d start held. r.ensures.1 b d start (l.invariant.1 b d start held),
      advances_frame c.args.span.lo c.args.span.hi l.f (l.f + 1) c.args.runs.now l.runs r.new.runs (omega arith) l.invariant.2 r.ensures.2,
    )
